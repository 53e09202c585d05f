-- What a rule adds to a step keeps the protocol's rules.
use Rattle.std.proofs.Common.{◌≡◌, ◌⊎◌, inl, inr, ◌∷◌, [], ◌++◌, ◌==◌, ℕ, Bool, true, false, List, Option, Some, None, refl, sym, ap, subst, ◌∙◌, arith, if◌then◌else◌, append-nil}
use Rattle.std.proofs.lemmas.Bool.{cond-false, eqb-true, false_from_ne_true}
use Rattle.std.proofs.lemmas.List.Concat.{flat_map-append}
use Rattle.e3_types.specs.declared.entries.Told.{Told}
use Rattle.e3_types.specs.declared.messages.Message.{Message}
use Rattle.e3_types.specs.declared.messages.Packet.{Packet}
use Rattle.e3_types.specs.declared.records.Record.{Record}
use Rattle.e3_types.specs.declared.records.Record.TheVariants as log
use Rattle.e3_types.specs.declared.transactions.Txn.{Txn}
use Rattle.e3_types.specs.Sets.{has_site}
use Rattle.e3_types.specs.Same.{same_txn}
use Rattle.e3_world.specs.declared.lives.Made.{Made}
use Rattle.e3_world.specs.Elections.{joined_in}
use Rattle.e3_world.specs.Making.{and_record, and_tell, and_send, and_cast}
use Rattle.e3_laws.specs.agreement.Logs.{IsIn, Note, Vote, Join, Attempt, Decision, before_join}
use Rattle.e3_laws.specs.agreement.Rules.{Party, Letter, letter, Word, Yes, No, Elected, Report, Pre, Ack, Decide, Other, MayWrite, MaySay}
use Rattle.e3_laws.specs.agreement.Marks.{behind, MayWriteAll}
use Rattle.e3_laws.proofs.agreement.Protocol.Logs.{join_bound}
use Rattle.e3_laws.specs.agreement.Views.{note_of, notes_of, words_of, letters_in, letters_of}
use Rattle.e3_laws.specs.agreement.Rows.{IsWell, is_for_members, Here, own_log, party, leader, notes_now, Good, JoinsFirst, waits_here}
use Rattle.e3_laws.proofs.agreement.Refinement.Lists.{in_map}
use Rattle.e3_laws.proofs.agreement.Refinement.Readings.{behind-append}
use Rattle.e3_laws.proofs.steps.Lists.{one_more}
use Rattle.e3_laws.proofs.agreement.Protocol.Reached.{in_parts}

-- a record is one note of the transaction, or none
one_or_none : (t : Txn) (e : ℕ) (r : Record) → (note_of t e r ≡ []) ⊎ ((n : Note) × (note_of t e r ≡ n ∷ []))
one_or_none t e (log.Vote u ops) = go (same_txn t u)
  where
    go : (b : Bool) → ((if b then Vote ∷ [] else []) ≡ []) ⊎ ((n : Note) × ((if b then Vote ∷ [] else []) ≡ n ∷ []))
    go true = inr (Vote, refl)
    go false = inl refl
one_or_none t e (log.Join u m) = go (same_txn t u)
  where
    go : (b : Bool) → ((if b then Join m e ∷ [] else []) ≡ []) ⊎ ((n : Note) × ((if b then Join m e ∷ [] else []) ≡ n ∷ []))
    go true = inr (Join m e, refl)
    go false = inl refl
one_or_none t e (log.Attempt u m d) = go (same_txn t u)
  where
    go : (b : Bool) → ((if b then Attempt m d ∷ [] else []) ≡ []) ⊎ ((n : Note) × ((if b then Attempt m d ∷ [] else []) ≡ n ∷ []))
    go true = inr (Attempt m d, refl)
    go false = inl refl
one_or_none t e (log.Decision u d) = go (same_txn t u)
  where
    go : (b : Bool) → ((if b then Decision d ∷ [] else []) ≡ []) ⊎ ((n : Note) × ((if b then Decision d ∷ [] else []) ≡ n ∷ []))
    go true = inr (Decision d, refl)
    go false = inl refl
one_or_none t e (log.Birth format site weights rows) = inl refl
one_or_none t e (log.Inc inc) = inl refl

notes_push : (t : Txn) (e : ℕ) (rs : List Record) (r : Record) → notes_of t e (rs ++ r ∷ []) ≡ notes_of t e rs ++ note_of t e r
notes_push t e rs r = flat_map-append (note_of t e) rs (r ∷ []) ∙ ap (λ z. notes_of t e rs ++ z) (append-nil (note_of t e r))

-- the notes behind one record more
pub now_push : (h : Here) (made : Made) (r : Record) → notes_now h (and_record r made) ≡ behind (notes_now h made) (note_of h.txn (leader h) r)
now_push h made r =
    ap (behind (own_log h)) (notes_push h.txn (leader h) made.records r) ∙ behind-append (own_log h) (notes_of h.txn (leader h) made.records) (note_of h.txn (leader h) r)

may_push : (g : Party) (sent : List Letter) (l : List Note) (x : ℕ) (ns : List Note) (n : Note) → MayWriteAll g sent l x ns → MayWrite g sent (behind l ns) x n
    → MayWriteAll g sent l x (ns ++ n ∷ [])
may_push g sent l x [] n all may = (may, tt)
may_push g sent l x (m ∷ ns) n all may = (all.0, may_push g sent (m ∷ l) x ns n all.1 may)

-- the first join among records, or else the other
abbrev or_else : Option ℕ → Option ℕ → Option ℕ
or_else (Some n) o = Some n
or_else None o = o

joined_append : (t : Txn) (xs ys : List Record) → joined_in t (xs ++ ys) ≡ or_else (joined_in t xs) (joined_in t ys)
joined_append t [] ys = refl
joined_append t (log.Join u n ∷ xs) ys = go (same_txn t u) (joined_append t xs ys)
  where
    go : (b : Bool) → joined_in t (xs ++ ys) ≡ or_else (joined_in t xs) (joined_in t ys)
        → (if b then Some n else joined_in t (xs ++ ys)) ≡ or_else (if b then Some n else joined_in t xs) (joined_in t ys)
    go true rest = refl
    go false rest = rest
joined_append t (log.Vote u ops ∷ xs) ys = joined_append t xs ys
joined_append t (log.Attempt u n d ∷ xs) ys = joined_append t xs ys
joined_append t (log.Decision u d ∷ xs) ys = joined_append t xs ys
joined_append t (log.Birth format site weights rows ∷ xs) ys = joined_append t xs ys
joined_append t (log.Inc inc ∷ xs) ys = joined_append t xs ys

-- a record that is no join leaves the first join first
pub first_stays : (h : Here) (records : List Record) (r : Record) → joined_in h.txn (r ∷ []) ≡ None → JoinsFirst h records → JoinsFirst h (records ++ r ∷ [])
first_stays h records r none first n is =
    let same : joined_in h.txn records ≡ Some n = sym (or_none (joined_in h.txn records)) ∙ sym (ap (or_else (joined_in h.txn records)) none) ∙ sym (joined_append h.txn records (r ∷ [])) ∙ is in
    let t = first n same in
    (t.0 ++ note_of h.txn (leader h) r, notes_push h.txn (leader h) records r ∙ ap (λ z. z ++ note_of h.txn (leader h) r) t.1)
  where
    or_none : (o : Option ℕ) → or_else o None ≡ o
    or_none None = refl
    or_none (Some n) = refl

-- a join behind no record stands first
pub first_join : (h : Here) (records : List Record) (u : Txn) (n : ℕ) → records ≡ [] → JoinsFirst h (records ++ log.Join u n ∷ [])
first_join h records u n bare = subst (λ (rs : List Record). JoinsFirst h (rs ++ log.Join u n ∷ [])) (sym bare) (λ k is. go k (same_txn h.txn u) is)
  where
    go : (k : ℕ) (b : Bool) → (if b then Some n else None) ≡ Some k → (more : List Note) × (((if b then Join n (leader h) ∷ [] else []) ++ []) ≡ Join k (leader h) ∷ more)
    go k true is = ([], let same : n ≡ k = cc in ap (λ z. Join z (leader h) ∷ []) same)
    go k false is = cc

-- what was said before a note may be said behind it
pub say_stays : (g : Party) (sent : List Letter) (l : List Note) (x y : ℕ) (n : Note) (w : Word) → MayWrite g sent l x n → MaySay sent l x y w → MaySay sent (n ∷ l) x y w
say_stays g sent l x y n Yes may say = inr say
say_stays g sent l x y n No may say = inr say
say_stays g sent l x y n (Elected k) may say = inr say
say_stays g sent l x y (Vote) (Report k st a) may say = record { joined = inr say.joined; says = say.says; tried = say.tried }
say_stays g sent l x y (Attempt m d) (Report k st a) may say = record { joined = inr say.joined; says = say.says; tried = say.tried }
say_stays g sent l x y (Decision d) (Report k st a) may say = record { joined = inr say.joined; says = say.says; tried = say.tried }
say_stays g sent l x y (Join m f) (Report k st a) may say =
    let apart : (m == k) ≡ false = false_from_ne_true (m == k) (λ q. let same : m ≡ k = eqb-true m k q in absurd (omega (arith, may.greater, join_bound k y l say.joined))) in
    let stays : before_join k (Join m f ∷ l) ≡ before_join k l = cond-false (m == k) l (before_join k l) apart in
    record { joined = inr say.joined; says = rw stays say.says; tried = rw stays say.tried }
say_stays g sent l x y n (Pre k d) may say = inr say
say_stays g sent l x y n (Ack k d) may say = record { came = say.came; made = say.made; stands = inr say.stands }
say_stays g sent l x y n (Decide d) may say = inr say
say_stays g sent l x y n Other may say = say

-- a record whose note may be written
pub keep_record : (h : Here) (made : Made) (r : Record) → Good h made → (JoinsFirst h made.records → JoinsFirst h (made.records ++ r ∷ []))
    → ((n : Note) → IsIn n (note_of h.txn (leader h) r) → MayWrite (party h) h.before.sent (notes_now h made) h.at.site n) → Good h (and_record r made)
keep_record h made r good first may = by (one_or_none h.txn (leader h) r)
  where
    by : (note_of h.txn (leader h) r ≡ []) ⊎ ((n : Note) × (note_of h.txn (leader h) r ≡ n ∷ [])) → Good h (and_record r made)
    by (inl none) =
        let same : notes_of h.txn (leader h) (made.records ++ r ∷ []) ≡ notes_of h.txn (leader h) made.records =
        notes_push h.txn (leader h) made.records r ∙ ap (λ z. notes_of h.txn (leader h) made.records ++ z) none ∙ append-nil (notes_of h.txn (leader h) made.records) in
        let now : notes_now h (and_record r made) ≡ notes_now h made = ap (behind (own_log h)) same in record {
          notes = subst (λ z. MayWriteAll (party h) h.before.sent (own_log h) h.at.site z) (sym same) good.notes;
          outs = good.outs;
          from_here = good.from_here;
          sends = λ p q. subst (λ z. MaySay h.before.sent z h.at.site p.target p.word) (sym now) (good.sends p q);
          own = good.own;
          joins = first good.joins;
        }
    by (inr one) =
        let may_one : MayWrite (party h) h.before.sent (notes_now h made) h.at.site one.0 = may one.0 (subst (λ z. IsIn one.0 z) (sym one.1) (inl refl)) in
        let same : notes_of h.txn (leader h) (made.records ++ r ∷ []) ≡ notes_of h.txn (leader h) made.records ++ one.0 ∷ [] =
        notes_push h.txn (leader h) made.records r ∙ ap (λ z. notes_of h.txn (leader h) made.records ++ z) one.1 in
        let now : notes_now h (and_record r made) ≡ one.0 ∷ notes_now h made = now_push h made r ∙ ap (λ z. behind (notes_now h made) z) one.1 in record {
          notes = subst (λ z. MayWriteAll (party h) h.before.sent (own_log h) h.at.site z) (sym same)
              (may_push (party h) h.before.sent (own_log h) h.at.site (notes_of h.txn (leader h) made.records) one.0 good.notes may_one);
          outs = good.outs;
          from_here = good.from_here;
          sends = λ p q. subst (λ z. MaySay h.before.sent z h.at.site p.target p.word) (sym now)
              (say_stays (party h) h.before.sent (notes_now h made) h.at.site p.target one.0 p.word may_one (good.sends p q));
          own = good.own;
          joins = first good.joins;
        }

pub keep_tell : (h : Here) (made : Made) (e : Told) → Good h made → Good h (and_tell e made)
keep_tell h made e good = record { notes = good.notes; outs = good.outs; from_here = good.from_here; sends = good.sends; own = good.own; joins = good.joins }

letters_push : (t : Txn) (ps : List Packet) (p : Packet) → letters_of t (ps ++ p ∷ []) ≡ letters_of t ps ++ letters_in t p
letters_push t ps p = flat_map-append (letters_in t) ps (p ∷ []) ∙ ap (λ z. letters_of t ps ++ z) (append-nil (letters_in t p))

-- the word may be said to a site, which is of the transaction where it has to be
abbrev pub MayLeave : Here → List Note → ℕ → Word → Type 0
MayLeave h l to w = MaySay h.before.sent l h.at.site to w × (is_for_members w ≡ true → (has_site h.txn.sites h.at.site ≡ true) × (has_site h.txn.sites to ≡ true))

-- a packet to another site, whose words may be said
keep_out : (h : Here) (made : Made) (to : ℕ) (m : Message) → Good h made → (to == h.at.site) ≡ false → ((w : Word) → IsIn w (words_of h.txn m) → MayLeave h (notes_now h made) to w)
    → Good h (record made { outs = made.outs ++ record { number = 0; «from» = h.at.site; to = to; msg = m } ∷ [] })
keep_out h made to m good away say = record {
  notes = good.notes;
  outs = λ q k. outs q (in_parts q made.outs (p ∷ []) k);
  from_here = λ q k. from_here q (parts q k);
  sends = λ q k. sends q (parts q k);
  own = good.own;
  joins = good.joins;
}
  where
    p : Packet
    p = record { number = 0; «from» = h.at.site; to = to; msg = m }

    outs : (q : Packet) → IsIn q made.outs ⊎ IsIn q (p ∷ []) → (q.«from» ≡ h.at.site) × ((q.to == h.at.site) ≡ false)
    outs q (inl k) = good.outs q k
    outs q (inr (inl e)) = subst (λ (z : Packet). (z.«from» ≡ h.at.site) × ((z.to == h.at.site) ≡ false)) (sym e) (refl, away)
    outs q (inr (inr e)) = absurd e

    parts : (q : Letter) → IsIn q (letters_of h.txn (made.outs ++ p ∷ [])) → IsIn q (letters_of h.txn made.outs) ⊎ IsIn q (letters_in h.txn p)
    parts q k = in_parts q (letters_of h.txn made.outs) (letters_in h.txn p) (subst (λ z. IsIn q z) (letters_push h.txn made.outs p) k)

    from_here : (q : Letter) → IsIn q (letters_of h.txn made.outs) ⊎ IsIn q (letters_in h.txn p) → (q.source ≡ h.at.site) × IsWell h.txn q
    from_here q (inl k) = good.from_here q k
    from_here q (inr k) =
        let f = in_map (letter h.at.site to) q (words_of h.txn m) k in
        subst (λ (z : Letter). (z.source ≡ h.at.site) × IsWell h.txn z) (sym f.2) (refl, record { away = away; members = (say f.0 f.1).1 })

    sends : (q : Letter) → IsIn q (letters_of h.txn made.outs) ⊎ IsIn q (letters_in h.txn p) → MaySay h.before.sent (notes_now h made) h.at.site q.target q.word
    sends q (inl k) = good.sends q k
    sends q (inr k) =
        let f = in_map (letter h.at.site to) q (words_of h.txn m) k in
        subst (λ (z : Letter). MaySay h.before.sent (notes_now h made) h.at.site z.target z.word) (sym f.2) (say f.0 f.1).0

-- a message to a site that may be this one
pub keep_send : (h : Here) (made : Made) (to : ℕ) (m : Message) → Good h made → ((to == h.at.site) ≡ true → waits_here h.at.site m ≡ true)
    → ((w : Word) → IsIn w (words_of h.txn m) → MayLeave h (notes_now h made) to w) → Good h (and_send h.at to m made)
keep_send h made to m good own say = by (to == h.at.site) refl
  where
    by : (b : Bool) → (to == h.at.site) ≡ b → Good h (and_send h.at to m made)
    by true is = rw is (record {
      notes = good.notes;
      outs = good.outs;
      from_here = good.from_here;
      sends = good.sends;
      own = one_more (waits_here h.at.site) made.own m good.own (own is);
      joins = good.joins;
    })
    by false is = rw is (keep_out h made to m good is say)

-- messages to other sites
pub keep_cast : (h : Here) (sites : List ℕ) (m : Message) (made : Made) → Good h made
    → ((to : ℕ) → IsIn to sites → (w : Word) → IsIn w (words_of h.txn m) → MayLeave h (notes_now h made) to w) → Good h (and_cast h.at sites m made)
keep_cast h [] m made good say = good
keep_cast h (s ∷ sites) m made good say = by (λ more kept says. keep_cast h sites m more kept says) (s == h.at.site) refl
  where
    by : ((more : Made) → Good h more → ((to : ℕ) → IsIn to sites → (w : Word) → IsIn w (words_of h.txn m) → MayLeave h (notes_now h more) to w) → Good h (and_cast h.at sites m more))
        → (b : Bool) → (s == h.at.site) ≡ b → Good h (and_cast h.at (s ∷ sites) m made)
    by rest true is = rw is (rest made good (λ to k. say to (inr k)))
    by rest false is = rw (is, is) (rest (record made { outs = made.outs ++ record { number = 0; «from» = h.at.site; to = s; msg = m } ∷ [] }) (keep_out h made s m good is (say s (inl refl))) (λ to k. say to (inr k)))
