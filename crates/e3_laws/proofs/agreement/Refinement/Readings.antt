-- The notes of a site's log say what its records say, with each record more.
use Rattle.std.proofs.Common.{◌≡◌, ◌⊎◌, inl, inr, ◌∷◌, [], ◌++◌, ◌||◌, ℕ, Bool, true, false, List, Option, Some, None, refl, sym, ap, subst, ◌∙◌, arith, if◌then◌else◌, max, append_assoc, append-nil}
use Rattle.std.proofs.lemmas.List.Sums.{fold-append}
use Rattle.e3_types.specs.declared.records.Record.{Record}
use Rattle.e3_types.specs.declared.records.Record.TheVariants as log
use Rattle.e3_types.specs.declared.transactions.Dir.{Dir}
use Rattle.e3_types.specs.declared.transactions.Dir.TheVariants.{Commit}
use Rattle.e3_types.specs.declared.transactions.Txn.{Txn}
use Rattle.e3_types.specs.Same.{same_txn}
use Rattle.e3_world.specs.Logs.{last_elected, last_elected_by, last_attempt, last_attempt_by, decision, decision_by, attempted, attempted_by, has_voted, is_vote}
use Rattle.e3_laws.specs.agreement.Logs.{Orderly, IsIn, Note, Vote, Join, Attempt, Decision, Idle, Waiting, elected, attempt, status, Undecided}
use Rattle.e3_laws.specs.agreement.Marks.{behind}
use Rattle.e3_laws.specs.agreement.Views.{note_of, notes_of, decided, tried, has_vote}
use Rattle.e3_laws.specs.agreement.Rows.{Reads}
use Rattle.e3_laws.proofs.steps.Tests.{or_false, or_true}
use Rattle.e3_laws.proofs.agreement.Protocol.Reached.{in_parts, in_behind}

elects_by : (t : Txn) (e : ℕ) (l : List Note) (r : Record) (n : ℕ) → n ≡ elected l → last_elected_by t n r ≡ elected (behind l (note_of t e r))
elects_by t e l (log.Vote u ops) n k = go (same_txn t u)
  where
    go : (b : Bool) → n ≡ elected (behind l (if b then Vote ∷ [] else []))
    go true = k
    go false = k
elects_by t e l (log.Join u m) n k = go (same_txn t u)
  where
    go : (b : Bool) → (if b then max n m else n) ≡ elected (behind l (if b then Join m e ∷ [] else []))
    go true = omega (arith, k)
    go false = k
elects_by t e l (log.Attempt u m d) n k = go (same_txn t u)
  where
    go : (b : Bool) → n ≡ elected (behind l (if b then Attempt m d ∷ [] else []))
    go true = k
    go false = k
elects_by t e l (log.Decision u d) n k = go (same_txn t u)
  where
    go : (b : Bool) → n ≡ elected (behind l (if b then Decision d ∷ [] else []))
    go true = k
    go false = k
elects_by t e l (log.Birth format site weights rows) n k = k
elects_by t e l (log.Inc inc) n k = k

attempts_by : (t : Txn) (e : ℕ) (l : List Note) (r : Record) (n : ℕ) → n ≡ attempt l → last_attempt_by t n r ≡ attempt (behind l (note_of t e r))
attempts_by t e l (log.Vote u ops) n k = go (same_txn t u)
  where
    go : (b : Bool) → n ≡ attempt (behind l (if b then Vote ∷ [] else []))
    go true = k
    go false = k
attempts_by t e l (log.Join u m) n k = go (same_txn t u)
  where
    go : (b : Bool) → n ≡ attempt (behind l (if b then Join m e ∷ [] else []))
    go true = k
    go false = k
attempts_by t e l (log.Attempt u m d) n k = go (same_txn t u)
  where
    go : (b : Bool) → (if b then max n m else n) ≡ attempt (behind l (if b then Attempt m d ∷ [] else []))
    go true = omega (arith, k)
    go false = k
attempts_by t e l (log.Decision u d) n k = go (same_txn t u)
  where
    go : (b : Bool) → n ≡ attempt (behind l (if b then Decision d ∷ [] else []))
    go true = k
    go false = k
attempts_by t e l (log.Birth format site weights rows) n k = k
attempts_by t e l (log.Inc inc) n k = k

decides_by : (t : Txn) (e : ℕ) (l : List Note) (r : Record) (n : Option Dir) → n ≡ decided l → decision_by t n r ≡ decided (behind l (note_of t e r))
decides_by t e l (log.Vote u ops) n k = go (same_txn t u)
  where
    go : (b : Bool) → n ≡ decided (behind l (if b then Vote ∷ [] else []))
    go true = k
    go false = k
decides_by t e l (log.Join u m) n k = go (same_txn t u)
  where
    go : (b : Bool) → n ≡ decided (behind l (if b then Join m e ∷ [] else []))
    go true = k
    go false = k
decides_by t e l (log.Attempt u m d) n k = go (same_txn t u)
  where
    go : (b : Bool) → n ≡ decided (behind l (if b then Attempt m d ∷ [] else []))
    go true = k
    go false = k
decides_by t e l (log.Decision u d) n k = go (same_txn t u)
  where
    go : (b : Bool) → (if b then Some d else n) ≡ decided (behind l (if b then Decision d ∷ [] else []))
    go true = refl
    go false = k
decides_by t e l (log.Birth format site weights rows) n k = k
decides_by t e l (log.Inc inc) n k = k

tries_by : (t : Txn) (e : ℕ) (l : List Note) (r : Record) (n : Option Dir) → n ≡ tried l → attempted_by t n r ≡ tried (behind l (note_of t e r))
tries_by t e l (log.Vote u ops) n k = go (same_txn t u)
  where
    go : (b : Bool) → n ≡ tried (behind l (if b then Vote ∷ [] else []))
    go true = k
    go false = k
tries_by t e l (log.Join u m) n k = go (same_txn t u)
  where
    go : (b : Bool) → n ≡ tried (behind l (if b then Join m e ∷ [] else []))
    go true = k
    go false = k
tries_by t e l (log.Attempt u m d) n k = go (same_txn t u)
  where
    go : (b : Bool) → (if b then Some d else n) ≡ tried (behind l (if b then Attempt m d ∷ [] else []))
    go true = refl
    go false = k
tries_by t e l (log.Decision u d) n k = go (same_txn t u)
  where
    go : (b : Bool) → n ≡ tried (behind l (if b then Decision d ∷ [] else []))
    go true = k
    go false = k
tries_by t e l (log.Birth format site weights rows) n k = k
tries_by t e l (log.Inc inc) n k = k

votes_by : (t : Txn) (e : ℕ) (l : List Note) (r : Record) (b : Bool) → b ≡ has_vote l → (b || (is_vote t r || false)) ≡ has_vote (behind l (note_of t e r))
votes_by t e l (log.Vote u ops) v k = go (same_txn t u)
  where
    go : (b : Bool) → (v || (b || false)) ≡ has_vote (behind l (if b then Vote ∷ [] else []))
    go true = or_true v
    go false = or_false v ∙ k
votes_by t e l (log.Join u m) v k = go (same_txn t u)
  where
    go : (b : Bool) → (v || false) ≡ has_vote (behind l (if b then Join m e ∷ [] else []))
    go true = or_false v ∙ k
    go false = or_false v ∙ k
votes_by t e l (log.Attempt u m d) v k = go (same_txn t u)
  where
    go : (b : Bool) → (v || false) ≡ has_vote (behind l (if b then Attempt m d ∷ [] else []))
    go true = or_false v ∙ k
    go false = or_false v ∙ k
votes_by t e l (log.Decision u d) v k = go (same_txn t u)
  where
    go : (b : Bool) → (v || false) ≡ has_vote (behind l (if b then Decision d ∷ [] else []))
    go true = or_false v ∙ k
    go false = or_false v ∙ k
votes_by t e l (log.Birth format site weights rows) v k = or_false v ∙ k
votes_by t e l (log.Inc inc) v k = or_false v ∙ k

any_append : (t : Txn) (xs ys : List Record) → has_voted t (xs ++ ys) ≡ (has_voted t xs || has_voted t ys)
any_append t [] ys = refl
any_append t (x ∷ xs) ys = go (is_vote t x) (any_append t xs ys)
  where
    go : (b : Bool) → has_voted t (xs ++ ys) ≡ (has_voted t xs || has_voted t ys) → (b || has_voted t (xs ++ ys)) ≡ ((b || has_voted t xs) || has_voted t ys)
    go true h = refl
    go false h = h

pub has_from_vote : (l : List Note) → IsIn Vote l → has_vote l ≡ true
has_from_vote [] k = absurd k
has_from_vote (Vote ∷ l) k = refl
has_from_vote (Join n e ∷ l) (inl p) = cc
has_from_vote (Join n e ∷ l) (inr k) = has_from_vote l k
has_from_vote (Attempt n d ∷ l) (inl p) = cc
has_from_vote (Attempt n d ∷ l) (inr k) = has_from_vote l k
has_from_vote (Decision d ∷ l) (inl p) = cc
has_from_vote (Decision d ∷ l) (inr k) = has_from_vote l k

pub orderly_front : (l ns : List Note) → Orderly (behind l ns) → Orderly l
orderly_front l [] o = o
orderly_front l (n ∷ ns) o = (orderly_front (n ∷ l) ns o).1

-- where an element stands in a list with one more at its end
push_split : {X : Type 0} (xs : List X) (r : X) (ys : List X) (c : X) (zs : List X) → xs ++ r ∷ [] ≡ ys ++ c ∷ zs → ((xs ≡ ys) × (r ≡ c)) ⊎ ((w : List X) × (xs ≡ ys ++ c ∷ w))
push_split [] r [] c zs is = inl (refl, cc)
push_split [] r (y ∷ []) c zs is = cc
push_split [] r (y ∷ z ∷ ys) c zs is = cc
push_split (x ∷ xs) r [] c zs is = inr (xs, let q : x ≡ c = cc in ap (λ z. z ∷ xs) q)
push_split {X = X} (x ∷ xs) r (y ∷ ys) c zs is = go (push_split xs r ys c zs (let q : xs ++ r ∷ [] ≡ ys ++ c ∷ zs = cc in q)) (let q : x ≡ y = cc in q)
  where
    go : ((xs ≡ ys) × (r ≡ c)) ⊎ ((w : List X) × (xs ≡ ys ++ c ∷ w)) → x ≡ y → ((x ∷ xs ≡ y ∷ ys) × (r ≡ c)) ⊎ ((w : List X) × (x ∷ xs ≡ (y ∷ ys) ++ c ∷ w))
    go (inl p) q = inl (ap (λ z. z ∷ xs) q ∙ ap (λ z. y ∷ z) p.0, p.1)
    go (inr p) q = inr (p.0, ap (λ z. z ∷ xs) q ∙ ap (λ z. y ∷ z) p.1)

pub reads_push : (t : Txn) (e : ℕ) (rs : List Record) (l : List Note) (r : Record) → Reads t rs l → Reads t (rs ++ r ∷ []) (behind l (note_of t e r))
reads_push t e rs l r k = record {
  elects = fold-append (last_elected_by t) 1 rs (r ∷ []) ∙ elects_by t e l r (last_elected t rs) k.elects;
  attempts = fold-append (last_attempt_by t) 0 rs (r ∷ []) ∙ attempts_by t e l r (last_attempt t rs) k.attempts;
  decides = fold-append (decision_by t) None rs (r ∷ []) ∙ decides_by t e l r (decision t rs) k.decides;
  tries = fold-append (attempted_by t) None rs (r ∷ []) ∙ tries_by t e l r (attempted t rs) k.tries;
  votes = any_append t rs (r ∷ []) ∙ votes_by t e l r (has_voted t rs) k.votes;
  holds = λ u n d same h. holds u n d same (in_parts (log.Attempt u n d) rs (r ∷ []) h);
  keeps = λ u d same h. keeps u d same (in_parts (log.Decision u d) rs (r ∷ []) h);
  commits = λ u before after same is ordered. commits u before same (push_split rs r before (log.Decision u Commit) after is) ordered;
}
  where
    now : (u : Txn) (n : ℕ) (d : Dir) (b : Bool) → b ≡ true → IsIn (Attempt n d) (behind l (if b then Attempt n d ∷ [] else []))
    now u n d true is = inl refl
    now u n d false is = cc

    holds : (u : Txn) (n : ℕ) (d : Dir) → same_txn t u ≡ true → IsIn (log.Attempt u n d) rs ⊎ IsIn (log.Attempt u n d) (r ∷ []) → IsIn (Attempt n d) (behind l (note_of t e r))
    holds u n d same (inl h) = in_behind (Attempt n d) l (note_of t e r) (k.holds u n d same h)
    holds u n d same (inr (inl p)) = subst (λ (z : Record). IsIn (Attempt n d) (behind l (note_of t e z))) p (now u n d (same_txn t u) same)
    holds u n d same (inr (inr p)) = absurd p

    commits : (u : Txn) (before : List Record) → same_txn t u ≡ true → ((rs ≡ before) × (r ≡ log.Decision u Commit)) ⊎ ((w : List Record) × (rs ≡ before ++ log.Decision u Commit ∷ w))
        → Orderly (behind l (note_of t e r)) → has_voted t before ≡ true
    commits u before same (inr w) ordered = k.commits u before w.0 same w.1 (orderly_front l (note_of t e r) ordered)
    commits u before same (inl is) ordered =
        subst (λ z. has_voted t z ≡ true) is.0 (k.votes ∙ has_from_vote l (last (same_txn t u) same (subst (λ (z : Record). Orderly (behind l (note_of t e z))) is.1 ordered)))
      where
        last : (b : Bool) → b ≡ true → Orderly (behind l (if b then Decision Commit ∷ [] else [])) → IsIn Vote l
        last true is o = o.0.voted refl
        last false is o = cc

    decided_now : (d : Dir) (b : Bool) → b ≡ true → IsIn (Decision d) (behind l (if b then Decision d ∷ [] else []))
    decided_now d true is = inl refl
    decided_now d false is = cc

    keeps : (u : Txn) (d : Dir) → same_txn t u ≡ true → IsIn (log.Decision u d) rs ⊎ IsIn (log.Decision u d) (r ∷ []) → IsIn (Decision d) (behind l (note_of t e r))
    keeps u d same (inl h) = in_behind (Decision d) l (note_of t e r) (k.keeps u d same h)
    keeps u d same (inr (inl p)) = subst (λ (z : Record). IsIn (Decision d) (behind l (note_of t e z))) p (decided_now d (same_txn t u) same)
    keeps u d same (inr (inr p)) = absurd p

pub behind-append : (l ns ms : List Note) → behind l (ns ++ ms) ≡ behind (behind l ns) ms
behind-append l [] ms = refl
behind-append l (n ∷ ns) ms = behind-append (n ∷ l) ns ms

-- with records more
pub reads_more : (t : Txn) (e : ℕ) (rs : List Record) (l : List Note) (more : List Record) → Reads t rs l → Reads t (rs ++ more) (behind l (notes_of t e more))
reads_more t e rs l [] k = subst (λ z. Reads t z l) (sym (append-nil rs)) k
reads_more t e rs l (r ∷ more) k =
    subst (λ z. Reads t z (behind l (notes_of t e (r ∷ more)))) (append_assoc rs (r ∷ []) more)
    (subst (λ z. Reads t ((rs ++ r ∷ []) ++ more) z) (sym (behind-append l (note_of t e r) (notes_of t e more)))
    (reads_more t e (rs ++ r ∷ []) (behind l (note_of t e r)) more (reads_push t e rs l r k)))

-- what the readings say of the notes
pub open_is : (l : List Note) → decided l ≡ None → Undecided l
open_is [] h d e = cc
open_is (Vote ∷ l) h d e = cc
open_is (Join n x ∷ l) h d e = open_is l h d e
open_is (Attempt n x ∷ l) h d e = cc
open_is (Decision x ∷ l) h d e = cc

pub vote_is : (l : List Note) → has_vote l ≡ true → IsIn Vote l
vote_is [] h = cc
vote_is (Vote ∷ l) h = inl refl
vote_is (Join n x ∷ l) h = inr (vote_is l h)
vote_is (Attempt n x ∷ l) h = inr (vote_is l h)
vote_is (Decision x ∷ l) h = inr (vote_is l h)

pub decision_in : (d : Dir) (l : List Note) → decided l ≡ Some d → IsIn (Decision d) l
decision_in d [] h = cc
decision_in d (Decision x ∷ l) h = inl (let q : d ≡ x = cc in ap Decision q)
decision_in d (Vote ∷ l) h = inr (decision_in d l h)
decision_in d (Join n x ∷ l) h = inr (decision_in d l h)
decision_in d (Attempt n x ∷ l) h = inr (decision_in d l h)

pub idle_is : (l : List Note) → decided l ≡ None → tried l ≡ None → has_vote l ≡ false → status l ≡ Idle
idle_is [] d t v = refl
idle_is (Vote ∷ l) d t v = cc
idle_is (Join n x ∷ l) d t v = idle_is l d t v
idle_is (Attempt n x ∷ l) d t v = cc
idle_is (Decision x ∷ l) d t v = cc

pub waiting_is : (l : List Note) → decided l ≡ None → tried l ≡ None → has_vote l ≡ true → status l ≡ Waiting
waiting_is [] d t v = cc
waiting_is (Vote ∷ l) d t v = refl
waiting_is (Join n x ∷ l) d t v = waiting_is l d t v
waiting_is (Attempt n x ∷ l) d t v = cc
waiting_is (Decision x ∷ l) d t v = cc

-- without an attempt the greatest number is 0
pub untried : (l : List Note) → tried l ≡ None → attempt l ≡ 0
untried [] h = refl
untried (Attempt n d ∷ l) h = cc
untried (Vote ∷ l) h = untried l h
untried (Join n x ∷ l) h = untried l h
untried (Decision d ∷ l) h = untried l h
