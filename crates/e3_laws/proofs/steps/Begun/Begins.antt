-- What a legal history of a given scenario begins are transactions.
use Rattle.std.proofs.Common.{◌≡◌, ◌≤◌, ◌==◌, ◌&&◌, ◌++◌, ◌∷◌, [], ℕ, zero, suc, nat_lt, Bool, true, false, List, refl, sym, subst, ap, ◌∙◌, map, count_by, append-nil, append_assoc, eqb-true, length, arith, le-leb}
use Rattle.std.specs.List.{flat_map, AllByRecursion as Each}
use Rattle.std.proofs.lemmas.Bool.{and_parts, and_from}
use Rattle.std.proofs.lemmas.Grind.{fold-append}
use Rattle.e3_types.specs.declared.entries.Act.{Act}
use Rattle.e3_types.specs.declared.entries.Act.TheVariants.{Step, Fall, Rise, RiseFall, Miss, Cut, Drop, Parts, Line}
use Rattle.e3_types.specs.declared.entries.Entry.{Entry}
use Rattle.e3_types.specs.declared.entries.Input.{Input}
use Rattle.e3_types.specs.declared.entries.Input.TheVariants as input
use Rattle.e3_types.specs.declared.records.Record.{Record}
use Rattle.e3_types.specs.declared.scenarios.Scenario.{Scenario}
use Rattle.e3_types.specs.declared.transactions.Txn.{Txn}
use Rattle.e3_types.specs.Sets.{has_site}
use Rattle.e3_types.specs.Transactions.{is_txn}
use Rattle.e3_world.specs.declared.lives.At.{At}
use Rattle.e3_world.specs.declared.lives.Made.{Made}
use Rattle.e3_world.specs.declared.lives.SiteStep.{SiteStep}
use Rattle.e3_world.specs.Given.{IsGiven}
use Rattle.e3_world.specs.Items.{is_up_at, began_in}
use Rattle.e3_world.specs.Legal.{Guard, IsLegal, LegalAfter, IsDue, numbered, made_by, entry_of}
use Rattle.e3_world.specs.Lives.{present_log, incarnation_of, life_of, life_at}
use Rattle.e3_world.specs.Logs.{logged_inc, logged_inc_by}
use Rattle.e3_world.specs.Moves.{Move, Stepped, Rose, Past, own_entries, past_of, past_by, moves_of, moves_of_act, kept_moves, log_by, rise_records, unnumbered, unnumbered_input}
use Rattle.e3_world.specs.Orderly.{is_among}
use Rattle.e3_world.specs.Packets.{sent}
use Rattle.e3_world.specs.Progress.{up_behind}
use Rattle.e3_world.specs.Steps.{is_begin}
use Rattle.e3_world.proofs.Pushes.{past_push, incarnation_push, life_push, legal_push}
use Rattle.e3_world.proofs.Readings.{own_same, own_other, up_same, up_other}
use Rattle.e3_laws.specs.steps.Bounds.{Suits}
use Rattle.e3_laws.proofs.steps.Each.{each-push, each-filter, each-at, each-weaker}
use Rattle.e3_laws.proofs.steps.Suits.Laws.{inputs_suit}
use Rattle.e3_laws.specs.steps.Mentions.{begun_in, Stands}
use Rattle.e3_laws.specs.steps.Begun.{BegunAreTransactions}
use Rattle.e3_laws.proofs.steps.Begun.Lists.{each-join}
use Rattle.e3_laws.proofs.steps.Begun.Keeping.{Keeps, Tells}
use Rattle.e3_laws.proofs.steps.Begun.Inputs.{BeginIs}
use Rattle.e3_laws.proofs.steps.Begun.Due.{BeginsKnown}
use Rattle.e3_laws.proofs.steps.Begun.Holding.{keeps_at, legal_holds}
use Rattle.e3_laws.proofs.steps.Begun.Laws.{due_mentions}
use Rattle.e3_laws.proofs.steps.Suits.Inputs.{place}

-- a transaction of the scenario's sites, with numbers from 1 on
abbrev pub IsOf : Scenario → Txn → Type 0
IsOf sc t = (is_txn t ≡ true) × (is_among t.site sc.weights t.sites ≡ true)

-- the incarnation of a site that is up has begun
abbrev IncBegun : Past → Bool → Type 0
IncBegun past up = up ≡ true → 1 ≤ (life_at past.moves).inc

-- what holds of a legal history
record Begins (sc : Scenario) (h : List Entry) : Type 0 where
  legal : IsLegal sc h
  begun : Each (λ e. Each (IsOf sc) (begun_in e.act)) h
  incs : (s : ℕ) → IncBegun (past_of sc s (own_entries s h)) (is_up_at h s)

-- the incarnation behind a rise
inc_rise : (sc : Scenario) (site inc : ℕ) (was log : List Record) → logged_inc (was ++ rise_records sc site inc log) ≡ inc
inc_rise sc site inc was [] = fold-append logged_inc_by 0 was (rise_records sc site inc [])
inc_rise sc site inc was (r ∷ rs) = fold-append logged_inc_by 0 was (rise_records sc site inc (r ∷ rs))

rise_inc : (sc : Scenario) (site : ℕ) (w : Past) (kept : Bool) (inc : ℕ) → (life_at (past_by sc site w (record { owner = site; act = Rise kept inc })).moves).inc ≡ inc
rise_inc sc site w kept inc =
    let mine : List Move = w.moves ++ kept_moves site kept w.tail in
    let records : List Record = rise_records sc site inc (log_by mine) in
    let m : Move = record { site = site; did = Rose inc records } in
    ap (λ l. (life_at l).inc) (sym (append_assoc w.moves (kept_moves site kept w.tail) (m ∷ [])))
    ∙ ap (λ i. (life_of i).inc) (incarnation_push mine m)
    ∙ inc_rise sc site inc (present_log (incarnation_of mine)) (log_by mine)

step_inc : (mine : List Move) (site : ℕ) (st : SiteStep) → (life_at (mine ++ record { site = site; did = Stepped st } ∷ [])).inc ≡ (life_at mine).inc
step_inc mine site st = ap (λ i. (life_of i).inc) (incarnation_push mine (record { site = site; did = Stepped st })) ∙ ap (λ l. l.inc) (life_push (incarnation_of mine) st)

-- the incarnations behind one more entry
incs_push : (sc : Scenario) (h : List Entry) (owner : ℕ) (act : Act) → ((s : ℕ) → IncBegun (past_of sc s (own_entries s h)) (is_up_at h s)) →
    IncBegun (past_by sc owner (past_of sc owner (own_entries owner h)) (record { owner = owner; act = act })) (up_behind (is_up_at h owner) act) →
    (s : ℕ) → IncBegun (past_of sc s (own_entries s (h ++ record { owner = owner; act = act } ∷ []))) (is_up_at (h ++ record { owner = owner; act = act } ∷ []) s)
incs_push sc h owner act was this s = by (owner == s) refl
  where
    e : Entry
    e = record { owner = owner; act = act }

    by : (b : Bool) → (owner == s) ≡ b → IncBegun (past_of sc s (own_entries s (h ++ e ∷ []))) (is_up_at (h ++ e ∷ []) s)
    by true is =
        let R : ℕ → Type 0 = λ x. IncBegun (past_by sc x (past_of sc x (own_entries x h)) e) (up_behind (is_up_at h x) act) in
        let Q : Bool → Type 0 = IncBegun (past_of sc s (own_entries s (h ++ e ∷ []))) in
        let T : Past → Type 0 = λ w. IncBegun w (up_behind (is_up_at h s) act) in
        subst Q (sym (up_same h e s is)) (subst T (sym (ap (past_of sc s) (own_same s h e is) ∙ past_push sc s (own_entries s h) e)) (subst R (eqb-true owner s is) this))
    by false is =
        let Q : Bool → Type 0 = IncBegun (past_of sc s (own_entries s (h ++ e ∷ []))) in
        let T : List Entry → Type 0 = λ l. IncBegun (past_of sc s l) (is_up_at h s) in
        subst Q (sym (up_other h e s is)) (subst T (sym (own_other s h e is)) (was s))

-- an entry that is no step
quiet_begins : (sc : Scenario) (h : List Entry) (owner : ℕ) (act : Act) → Begins sc h → Guard sc h (record { owner = owner; act = act }) → begun_in act ≡ [] →
    IncBegun (past_by sc owner (past_of sc owner (own_entries owner h)) (record { owner = owner; act = act })) (up_behind (is_up_at h owner) act) →
    Begins sc (h ++ record { owner = owner; act = act } ∷ [])
quiet_begins sc h owner act was guard none this = record {
  legal = legal_push sc h (record { owner = owner; act = act }) was.legal guard;
  begun = let R : List Txn → Type 0 = Each (IsOf sc) in
      each-push (λ e. Each (IsOf sc) (begun_in e.act)) h (record { owner = owner; act = act }) was.begun (subst R (sym none) tt);
  incs = incs_push sc h owner act was.incs this;
}

-- an act that makes no move
still_inc : (sc : Scenario) (h : List Entry) (owner : ℕ) (act : Act) → moves_of_act sc owner (past_of sc owner (own_entries owner h)) act ≡ [] →
    (up_behind (is_up_at h owner) act ≡ true → is_up_at h owner ≡ true) → IncBegun (past_of sc owner (own_entries owner h)) (is_up_at h owner) →
    IncBegun (past_by sc owner (past_of sc owner (own_entries owner h)) (record { owner = owner; act = act })) (up_behind (is_up_at h owner) act)
still_inc sc h owner act none ups was up =
    let R : List Move → Type 0 = λ l. 1 ≤ (life_at l).inc in
    subst R (sym (ap (λ l. moves_of sc h owner ++ l) none ∙ append-nil (moves_of sc h owner))) (was (ups up))

is_of : (sc : Scenario) (site inc seq : ℕ) (sites : List ℕ) → is_among site sc.weights sites ≡ true → 1 ≤ inc →
    IsOf sc (record { site = site; inc = inc; seq = suc seq; sites = sites })
is_of sc site inc seq sites among low =
    let has : has_site sites site ≡ true = (and_parts (has_site sites site) _ among).0 in
    let more : nat_lt 0 inc ≡ true = le-leb 1 inc low in
    let both : (has_site sites site && nat_lt 0 inc) ≡ true = and_from _ _ has more in
    (rw both (le-leb 1 (suc seq) (omega arith)), among)

-- a step
step_begins : (sc : Scenario) (h : List Entry) (site : ℕ) (i : Input) → IsGiven sc → Begins sc h → Guard sc h (entry_of sc h site i) → is_up_at h site ≡ true → IsDue sc h site i →
    Begins sc (h ++ entry_of sc h site i ∷ [])
step_begins sc h site i given was guard up due = record {
  legal = legal_push sc h (entry_of sc h site i) was.legal guard;
  begun = each-push (λ e. Each (IsOf sc) (begun_in e.act)) h (entry_of sc h site i) was.begun
      (each-join (IsOf sc) began_in made.told (each-weaker (Tells (Stands sc h) (IsOf sc)) (λ e. Each (IsOf sc) (began_in e)) (λ e this. this.1) made.told keeps.told));
  incs = incs_push sc h site (entry_of sc h site i).act was.incs (λ now. let R : ℕ → Type 0 = λ n. 1 ≤ n in
      subst R (sym (step_inc (moves_of sc h site) site (record { input = unnumbered_input i; records = made.records; outs = map unnumbered (numbered (suc (length (sent h))) made.outs); told = made.told })))
      (was.incs site up));
}
  where
    made : Made
    made = made_by sc h site i

    a : At
    a = place sc.weights site (incarnation_of (moves_of sc h site)) i

    begins : (x : Input) → Suits sc.weights site x → BeginIs (IsOf sc) (place sc.weights site (incarnation_of (moves_of sc h site)) i) x
    begins (input.Begin sites) fit = is_of sc site (life_at (moves_of sc h site)).inc (count_by is_begin (life_at (moves_of sc h site)).steps) sites fit (was.incs site up)
    begins x fit = tt

    keeps : Keeps (Stands sc h) (IsOf sc) site (made_by sc h site i)
    keeps = keeps_at (Stands sc h) (IsOf sc) (BeginsKnown (Stands sc h)) sc h site i (legal_holds sc h was.legal).now (due_mentions sc h site i was.legal due)
        (begins i (inputs_suit sc h site i given was.legal due))

guard_begins : (sc : Scenario) (h : List Entry) (owner : ℕ) (act : Act) → IsGiven sc → Begins sc h → Guard sc h (record { owner = owner; act = act }) →
    Begins sc (h ++ record { owner = owner; act = act } ∷ [])
guard_begins sc h zero (Line number) given was guard = quiet_begins sc h 0 (Line number) was guard refl (still_inc sc h 0 (Line number) refl (λ up. up) (was.incs 0))
guard_begins sc h zero (Parts parts) given was guard = quiet_begins sc h 0 (Parts parts) was guard refl (still_inc sc h 0 (Parts parts) refl (λ up. up) (was.incs 0))
guard_begins sc h zero (Drop number) given was guard = quiet_begins sc h 0 (Drop number) was guard refl (still_inc sc h 0 (Drop number) refl (λ up. up) (was.incs 0))
guard_begins sc h zero act given was guard = absurd guard
guard_begins sc h (suc s) (Step i records outs events) given was guard =
    let R : Entry → Type 0 = λ e. Begins sc (h ++ e ∷ []) in
    let G : Entry → Type 0 = Guard sc h in
    subst R (sym guard.made) (step_begins sc h (suc s) i given was (subst G guard.made guard) guard.up guard.due)
guard_begins sc h (suc s) (Fall inputs records why) given was guard = quiet_begins sc h (suc s) (Fall inputs records why) was guard refl (λ up. absurd cc)
guard_begins sc h (suc s) Cut given was guard = quiet_begins sc h (suc s) Cut was guard refl (λ up. absurd cc)
guard_begins sc h (suc s) (Rise kept inc) given was guard = quiet_begins sc h (suc s) (Rise kept inc) was guard refl
    (λ up. let same : _ = rise_inc sc (suc s) (past_of sc (suc s) (own_entries (suc s) h)) kept inc in let next : _ = guard.next in omega (arith, same, next))
guard_begins sc h (suc s) (RiseFall kept inc why) given was guard = quiet_begins sc h (suc s) (RiseFall kept inc why) was guard refl (λ up. absurd cc)
guard_begins sc h (suc s) Miss given was guard = quiet_begins sc h (suc s) Miss was guard refl (λ up. absurd cc)
guard_begins sc h (suc s) act given was guard = absurd guard

after_begins : (sc : Scenario) (before rest : List Entry) → IsGiven sc → Begins sc before → LegalAfter sc before rest → Begins sc (before ++ rest)
after_begins sc before [] given was legal = let R : List Entry → Type 0 = Begins sc in subst R (sym (append-nil before)) was
after_begins sc before (e ∷ rest) given was legal = let R : List Entry → Type 0 = Begins sc in
    subst R (append_assoc before (e ∷ []) rest) (after_begins sc (before ++ e ∷ []) rest given (guard_begins sc before e.owner e.act given was legal.0) legal.1)

legal_begins : (sc : Scenario) (h : List Entry) → IsGiven sc → IsLegal sc h → Begins sc h
legal_begins sc h given legal = after_begins sc [] h given (record { legal = tt; begun = tt; incs = λ s up. absurd cc }) legal

-- what each entry begins
pub begun_all : (sc : Scenario) (h : List Entry) → IsGiven sc → IsLegal sc h → Each (λ e. Each (IsOf sc) (begun_in e.act)) h
begun_all sc h given legal = (legal_begins sc h given legal).begun

pub begun_txns : BegunAreTransactions
begun_txns sc h t given legal begun =
    each-at (IsOf sc) (flat_map (λ e. begun_in e.act) (own_entries t.site h)) t
    (each-join (IsOf sc) (λ e. begun_in e.act) (own_entries t.site h)
    (each-filter (λ e. Each (IsOf sc) (begun_in e.act)) (λ e. e.owner == t.site) h (begun_all sc h given legal))) begun
