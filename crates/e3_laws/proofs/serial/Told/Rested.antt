-- The story of a site that falls or rises.
use Rattle.std.proofs.Common.{◌≡◌, ◌⊎◌, inl, inr, ◌++◌, ◌∷◌, [], ℕ, zero, suc, ◌<◌, ◌≤◌, true, false, List, Some, length, refl, sym, subst, ap, ◌∙◌, append-nil, arith}
use Rattle.std.specs.List.{flat_map}
use Rattle.std.proofs.lemmas.Bool.{or_left, true≢false}
use Rattle.std.proofs.lemmas.Grind.{flat_map-append}
use Rattle.std.proofs.lemmas.List.Folds.{list_any-append}
use Rattle.e3_types.specs.declared.entries.Told.{Told}
use Rattle.e3_types.specs.declared.entries.Told.TheVariants as told
use Rattle.e3_types.specs.declared.messages.Packet.{Packet}
use Rattle.e3_types.specs.declared.records.Record.{Record}
use Rattle.e3_types.specs.declared.records.Record.TheVariants as log
use Rattle.e3_types.specs.declared.transactions.Answer.{Answer}
use Rattle.e3_types.specs.declared.transactions.NumOp.{NumOp}
use Rattle.e3_types.specs.declared.transactions.Op.{Op}
use Rattle.e3_types.specs.declared.transactions.Txn.{Txn}
use Rattle.e3_world.specs.declared.lives.Life.{Life}
use Rattle.e3_world.specs.Logs.{has_voted, logged_inc, key_of}
use Rattle.e3_world.specs.Operations.{issued, nth_op, arrivals}
use Rattle.e3_laws.proofs.serial.Lists.Entries.{In}
use Rattle.e3_laws.proofs.serial.Step.Steadying.{some_inj}
use Rattle.e3_world.specs.Lives.{life_at}
use Rattle.e3_world.specs.Moves.{Move, recorded, log_by}
use Rattle.e3_world.specs.Sound.{sends, tells, has_risen}
use Rattle.e3_world.proofs.Pushes.{log_push, life_log_at}
use Rattle.e3_laws.proofs.serial.Told.Telling.{VotersAnswered}
use Rattle.e3_laws.proofs.serial.Told.Stories.{First, Given, Answered, BySent, ByTold, Values, VoteOf, OwnVote, AskedVote, Story}
use Rattle.e3_laws.proofs.serial.Told.Running.{Running}

-- the story as its life runs on
pub story_running : (sent : List Packet) (iss : Txn → List Op) (site : ℕ) (mine : List Move) → has_risen mine ≡ true → Story sent iss site mine → Running sent iss site mine (life_at mine)
story_running sent iss site mine up k = record {
  first = λ t n inc v ans now. first t n inc v ans now;
  voters = subst (λ l. VotersAnswered site l (life_at mine).steps) (sym (life_log_at mine)) k.voters;
  votes = λ before after t ops e. k.votes before after t ops (sym (life_log_at mine) ∙ e);
}
  where
    given : (t : Txn) (n inc : ℕ) (v : Answer) → Given iss site (has_risen mine) (life_at mine) t n inc v → inc ≡ (life_at mine).inc → (op : Op) × (nth_op n (iss t) ≡ Some op) × First site (life_at mine).steps t n op v
    given t n inc v g now = (g.op, g.nth, g.present up now)

    first : (t : Txn) (n inc : ℕ) (v : Answer) → Answered iss site mine t n inc v → inc ≡ (life_at mine).inc → (op : Op) × (nth_op n (iss t) ≡ Some op) × First site (life_at mine).steps t n op v
    first t n inc v (BySent p h says) now = given t n inc v (k.dones p t n inc v h says) now
    first t n inc v (ByTold h is op nth here) now =
        let r = k.tolds t n v h in
        let same : r.1 ≡ op = some_inj r.1 op (sym r.2 ∙ nth) in
        given t n inc v (subst (λ z. Given iss site (has_risen mine) (life_at mine) t n z v) (sym is) (r.3 (ap (λ o. (key_of o).site) same ∙ here))) now

-- a move without steps: what it leaves
pub record IsRest (site : ℕ) (mine : List Move) (m : Move) (rs : List Record) : Type 0 where
  pub life : life_at (mine ++ m ∷ []) ≡ record { log = log_by mine ++ rs; inc = logged_inc (log_by mine ++ rs); steps = [] }
  pub quiet : sends m ≡ []
  pub untold : tells m ≡ []
  pub records : recorded m ≡ rs

-- the incarnation is above all before it, or the site is down
abbrev pub Anew : List Move → Move → List Record → Type 0
Anew mine m rs = (has_risen (mine ++ m ∷ []) ≡ false) ⊎ (logged_inc (log_by mine) < logged_inc (log_by mine ++ rs))

module _ (sent : List Packet) (iss : Txn → List Op) (site : ℕ) (mine : List Move) (m : Move) (rs : List Record) (is : IsRest site mine m rs) (anew : Anew mine m rs)
    (grows : logged_inc (log_by mine) ≤ logged_inc (log_by mine ++ rs)) (k : Story sent iss site mine)
    (new_votes : (before after : List Record) (t : Txn) (ops : List NumOp) → log_by mine ++ rs ≡ before ++ log.Vote t ops ∷ after → VoteOf sent iss site mine before t ops) where
  sends_same : flat_map sends (mine ++ m ∷ []) ≡ flat_map sends mine
  sends_same = flat_map-append sends mine (m ∷ []) ∙ ap (λ l. flat_map sends mine ++ (l ++ [])) is.quiet ∙ append-nil (flat_map sends mine)

  tells_same : flat_map tells (mine ++ m ∷ []) ≡ flat_map tells mine
  tells_same = flat_map-append tells mine (m ∷ []) ∙ ap (λ l. flat_map tells mine ++ (l ++ [])) is.untold ∙ append-nil (flat_map tells mine)

  log_same : log_by (mine ++ m ∷ []) ≡ log_by mine ++ rs
  log_same = log_push mine m ∙ ap (λ l. log_by mine ++ l) is.records

  inc_same : (life_at (mine ++ m ∷ [])).inc ≡ logged_inc (log_by mine ++ rs)
  inc_same = ap (λ (l : Life). l.inc) is.life

  steps_none : (life_at (mine ++ m ∷ [])).steps ≡ []
  steps_none = ap (λ (l : Life). l.steps) is.life

  not_past : (inc : ℕ) → inc ≤ (life_at mine).inc → has_risen (mine ++ m ∷ []) ≡ true → inc ≡ (life_at (mine ++ m ∷ [])).inc → ⊥
  not_past inc old up now = elim anew [
    | inl down ↦ true≢false (sym up ∙ down)
    | inr less ↦ (let c = k.clock in let e : inc ≡ logged_inc (log_by mine ++ rs) = now ∙ inc_same in absurd (omega (arith, old, c, e, less)))
  ]

  later : (inc : ℕ) → inc ≤ (life_at mine).inc → inc ≤ (life_at (mine ++ m ∷ [])).inc
  later inc old = let c = k.clock in let e = inc_same in omega (arith, old, c, e, grows)

  given_rest : (t : Txn) (n inc : ℕ) (v : Answer) → Given iss site (has_risen mine) (life_at mine) t n inc v → Given iss site (has_risen (mine ++ m ∷ [])) (life_at (mine ++ m ∷ [])) t n inc v
  given_rest t n inc v g = record { old = later inc g.old; op = g.op; nth = g.nth; here = g.here; present = λ up now. absurd (not_past inc g.old up now) }

  sent_back : (p : Packet) → In p (flat_map sends (mine ++ m ∷ [])) → In p (flat_map sends mine)
  sent_back p h = subst (λ l. In p l) sends_same h

  told_back : (e : Told) → In e (flat_map tells (mine ++ m ∷ [])) → In e (flat_map tells mine)
  told_back e h = subst (λ l. In e l) tells_same h

  values_rest : (before : List Record) (t : Txn) (ops : List NumOp) (inc : ℕ) → Values iss site mine before t ops inc → Values iss site (mine ++ m ∷ []) before t ops inc
  values_rest before t ops inc h n v (BySent p x says) = h n v (BySent p (sent_back p x) says)
  values_rest before t ops inc h n v (ByTold x e op nth here) = h n v (ByTold (told_back (told.Op t n v) x) e op nth here)

  vote_rest : (before : List Record) (t : Txn) (ops : List NumOp) → VoteOf sent iss site mine before t ops → VoteOf sent iss site (mine ++ m ∷ []) before t ops
  vote_rest before t ops (OwnVote own values) = OwnVote own (values_rest before t ops t.inc values)
  vote_rest before t ops (AskedVote p inc count h says to other (inl none)) = AskedVote p inc count h says to other (inl none)
  vote_rest before t ops (AskedVote p inc count h says to other (inr values)) = AskedVote p inc count h says to other (inr (values_rest before t ops inc values))

  voted_more : (t : Txn) → has_voted t (log_by mine) ≡ true → has_voted t (log_by (mine ++ m ∷ [])) ≡ true
  voted_more t h = ap (has_voted t) log_same ∙ list_any-append (Rattle.e3_world.specs.Logs.is_vote t) (log_by mine) rs ∙ or_left (has_voted t (log_by mine)) _ h

  -- an own transaction of an incarnation that is past
  issued_past : (t : Txn) → t.site ≡ site → has_risen (mine ++ m ∷ []) ≡ true → t.inc ≡ (life_at (mine ++ m ∷ [])).inc → iss t ≡ []
  issued_past t own up now = go (iss t) refl
    where
      go : (l : List Op) → iss t ≡ l → iss t ≡ []
      go [] e = e
      go (o ∷ l) e = absurd (not_past t.inc (k.past t own (λ z. (let both : [] ≡ o ∷ l = sym z ∙ e in cc))) up now)

  nothing_told : (t : Txn) (n : ℕ) (v : Answer) (op : Op) → t.site ≡ site → nth_op n (iss t) ≡ Some op → has_risen (mine ++ m ∷ []) ≡ true → t.inc ≡ (life_at (mine ++ m ∷ [])).inc → ⊥
  nothing_told t n v op own nth up now = none n (ap (nth_op n) (sym (issued_past t own up now)) ∙ nth)
    where
      none : (n : ℕ) → nth_op n [] ≡ Some op → ⊥
      none zero h = cc
      none (suc n) h = cc

  pub story_rest : Story sent iss site (mine ++ m ∷ [])
  story_rest = record {
    clock = inc_same ∙ ap logged_inc (sym log_same);
    past = λ t own some. later t.inc (k.past t own some);
    now = λ t own up now. issued_past t own up now ∙ sym (ap (λ l. issued t l) steps_none);
    member = k.member;
    source = λ p h. k.source p (sent_back p h);
    does = λ p t n op h says. k.does p t n op (sent_back p h) says;
    came = λ q h. absurd (subst (λ l. In q (arrivals site l)) steps_none h);
    dones = λ p t n inc v h says. given_rest t n inc v (k.dones p t n inc v (sent_back p h) says);
    tolds = λ t n v h. (let r = k.tolds t n v (told_back (told.Op t n v) h) in (r.0, r.1, r.2, (λ here. given_rest t n t.inc v (r.3 here))));
    voters = λ t h q x same. absurd (subst (λ l. In q (arrivals site l)) steps_none x);
    votes = λ before after t ops e. vote_rest before t ops (new_votes before after t ops (sym log_same ∙ e));
    hears = λ t n v op h nth away up now. absurd (nothing_told t n v op (k.tolds t n v (told_back (told.Op t n v) h)).0 nth up now);
    asks = λ p t inc count h says. (let r = k.asks p t inc count (sent_back p h) says in record {
      own = r.own;
      other = r.other;
      voted = voted_more t r.voted;
      all_told = λ up now n low high. absurd (none_issued (iss t) n low high (issued_past t r.own up now));
      heard = λ n v op x nth to. r.heard n v op (told_back (told.Op t n v) x) nth to;
    });
  }
    where
      none_issued : (l : List Op) (n : ℕ) → 1 ≤ n → n ≤ length l → l ≡ [] → ⊥
      none_issued [] n low high e = absurd (omega (arith, low, high))
      none_issued (o ∷ l) n low high e = cc
