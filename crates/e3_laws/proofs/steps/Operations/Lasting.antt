-- In every legal history of a given scenario transactions are new, and operations are issued and answered one by one.
use Rattle.std.proofs.Common.{◌≡◌, ◌++◌, ◌∷◌, [], ℕ, zero, suc, List, refl, sym, subst, ap, ◌∙◌, append-nil, append_assoc, true, false, arith}
use Rattle.std.specs.Prelude.{Contains}
use Rattle.e3_types.specs.declared.entries.Act.{Act}
use Rattle.e3_types.specs.declared.entries.Act.TheVariants.{Step, Fall, Rise, RiseFall, Miss, Cut, Drop, Parts, Line}
use Rattle.e3_types.specs.declared.entries.Entry.{Entry}
use Rattle.e3_types.specs.declared.entries.Input.{Input}
use Rattle.e3_types.specs.declared.messages.Packet.{Packet}
use Rattle.e3_types.specs.declared.scenarios.Scenario.{Scenario}
use Rattle.e3_world.specs.Given.{IsGiven}
use Rattle.e3_world.specs.Items.{is_up_at}
use Rattle.e3_world.specs.Legal.{Guard, IsLegal, LegalAfter, IsDue, entry_of}
use Rattle.e3_laws.proofs.steps.Suits.Holding.{Holds, first_holds, step_holds, guard_holds}
use Rattle.e3_laws.proofs.steps.Sound.Clocks.{AdvanceAt, step_advance, guard_advance}
use Rattle.e3_laws.proofs.steps.Suits.Binding.{binding_push}
use Rattle.e3_laws.proofs.steps.Operations.Freshness.{Fresh, quiet_fresh, line_fresh, step_fresh}
use Rattle.e3_laws.proofs.steps.Operations.Talks.{Talks}
use Rattle.e3_laws.proofs.steps.Operations.Stepping.{stepped_talks}
use Rattle.e3_laws.proofs.steps.Operations.Speaking.{moment_of, step_facts}
use Rattle.e3_laws.proofs.steps.Operations.Quiet.{quiet_on, line_on, rising_calm}

-- what holds of a legal history so far
pub record Lasts (sc : Scenario) (h : List Entry) : Type 0 where
  pub holds : Holds sc h
  pub fresh : Fresh sc h
  pub talks : Talks sc h

pub step_lasts : (sc : Scenario) (h : List Entry) (site : ℕ) (i : Input) → IsGiven sc → is_up_at h site ≡ true → IsDue sc h site i → Lasts sc h →
    Lasts sc (h ++ entry_of sc h site i ∷ [])
step_lasts sc h site i given up due was = record {
  holds = step_holds sc h site i given up due was.holds;
  fresh = step_fresh sc h site i was.fresh up due (step_advance sc h site i given up due was.holds was.fresh.clocks);
  talks = stepped_talks sc h (h ++ entry_of sc h site i ∷ []) site i (moment_of sc h site i) (step_facts sc h site i given was.holds was.fresh up due) was.talks;
}

guard_fresh : (sc : Scenario) (h : List Entry) (owner : ℕ) (act : Act) → IsGiven sc → Lasts sc h → Guard sc h (record { owner = owner; act = act }) →
    ((s : ℕ) → AdvanceAt sc h (record { owner = owner; act = act }) s) → Fresh sc (h ++ record { owner = owner; act = act } ∷ [])
guard_fresh sc h zero (Line number) given was guard adv = line_fresh sc h number was.fresh was.holds.now.took adv
guard_fresh sc h zero (Parts parts) given was guard adv = quiet_fresh sc h (record { owner = 0; act = Parts parts }) was.fresh adv refl refl (λ w. refl) refl
guard_fresh sc h zero (Drop number) given was guard adv = quiet_fresh sc h (record { owner = 0; act = Drop number }) was.fresh adv refl refl (λ w. refl) refl
guard_fresh sc h zero act given was guard adv = absurd guard
guard_fresh sc h (suc s) (Step i records outs events) given was guard adv =
    let P : Entry → Type 0 = λ e. Fresh sc (h ++ e ∷ []) in
    let Q : Entry → Type 0 = λ e. (s : ℕ) → AdvanceAt sc h e s in
    subst P (sym guard.made) (step_fresh sc h (suc s) i was.fresh guard.up guard.due (subst Q guard.made adv))
guard_fresh sc h (suc s) (Fall inputs records why) given was guard adv = quiet_fresh sc h (record { owner = suc s; act = Fall inputs records why }) was.fresh adv refl refl (λ w. refl) refl
guard_fresh sc h (suc s) Cut given was guard adv = quiet_fresh sc h (record { owner = suc s; act = Cut }) was.fresh adv refl refl (λ w. refl) refl
guard_fresh sc h (suc s) (Rise kept inc) given was guard adv = quiet_fresh sc h (record { owner = suc s; act = Rise kept inc }) was.fresh adv refl refl (λ w. refl) refl
guard_fresh sc h (suc s) (RiseFall kept inc why) given was guard adv = quiet_fresh sc h (record { owner = suc s; act = RiseFall kept inc why }) was.fresh adv refl refl (λ w. refl) refl
guard_fresh sc h (suc s) Miss given was guard adv = quiet_fresh sc h (record { owner = suc s; act = Miss }) was.fresh adv refl refl (λ w. refl) refl
guard_fresh sc h (suc s) act given was guard adv = absurd guard

guard_talks : (sc : Scenario) (h : List Entry) (owner : ℕ) (act : Act) → IsGiven sc → Lasts sc h → Guard sc h (record { owner = owner; act = act }) →
    ((s : ℕ) → AdvanceAt sc h (record { owner = owner; act = act }) s) → Talks sc (h ++ record { owner = owner; act = act } ∷ [])
guard_talks sc h zero (Line number) given was guard adv = line_on sc h number was.fresh was.talks adv guard.through
    (ap (λ w. w.bound) (binding_push sc h (record { owner = 0; act = Line number })))
guard_talks sc h zero (Parts parts) given was guard adv = quiet_on sc h (record { owner = 0; act = Parts parts }) was.fresh was.talks adv refl refl
    (ap (λ w. w.bound) (binding_push sc h (record { owner = 0; act = Parts parts }))) (λ w. refl) (λ b down up. absurd (let both : true ≡ false = sym up ∙ down in cc))
guard_talks sc h zero (Drop number) given was guard adv = quiet_on sc h (record { owner = 0; act = Drop number }) was.fresh was.talks adv refl refl
    (ap (λ w. w.bound) (binding_push sc h (record { owner = 0; act = Drop number }))) (λ w. refl) (λ b down up. absurd (let both : true ≡ false = sym up ∙ down in cc))
guard_talks sc h zero act given was guard adv = absurd guard
guard_talks sc h (suc s) (Step i records outs events) given was guard adv =
    let P : Entry → Type 0 = λ e. Talks sc (h ++ e ∷ []) in
    subst P (sym guard.made) (step_lasts sc h (suc s) i given guard.up guard.due was).talks
guard_talks sc h (suc s) (Fall inputs records why) given was guard adv = quiet_on sc h (record { owner = suc s; act = Fall inputs records why }) was.fresh was.talks adv refl refl
    (ap (λ w. w.bound) (binding_push sc h (record { owner = suc s; act = Fall inputs records why }))) (λ w. refl) (λ b down up. absurd cc)
guard_talks sc h (suc s) Cut given was guard adv = quiet_on sc h (record { owner = suc s; act = Cut }) was.fresh was.talks adv refl refl
    (ap (λ w. w.bound) (binding_push sc h (record { owner = suc s; act = Cut }))) (λ w. refl) (λ b down up. absurd cc)
guard_talks sc h (suc s) (Rise kept inc) given was guard adv = quiet_on sc h (record { owner = suc s; act = Rise kept inc }) was.fresh was.talks adv refl refl
    (ap (λ w. w.bound) (binding_push sc h (record { owner = suc s; act = Rise kept inc }))) (λ w. refl) (λ b down up. rising_calm sc h (suc s) given was.talks guard.rising.turn)
guard_talks sc h (suc s) (RiseFall kept inc why) given was guard adv = quiet_on sc h (record { owner = suc s; act = RiseFall kept inc why }) was.fresh was.talks adv refl refl
    (ap (λ w. w.bound) (binding_push sc h (record { owner = suc s; act = RiseFall kept inc why }))) (λ w. refl) (λ b down up. absurd cc)
guard_talks sc h (suc s) Miss given was guard adv = quiet_on sc h (record { owner = suc s; act = Miss }) was.fresh was.talks adv refl refl
    (ap (λ w. w.bound) (binding_push sc h (record { owner = suc s; act = Miss }))) (λ w. refl) (λ b down up. absurd cc)
guard_talks sc h (suc s) act given was guard adv = absurd guard

pub guard_lasts : (sc : Scenario) (h : List Entry) (e : Entry) → IsGiven sc → Lasts sc h → Guard sc h e → Lasts sc (h ++ e ∷ [])
guard_lasts sc h e given was guard = record {
  holds = guard_holds sc h e.owner e.act given was.holds guard;
  fresh = guard_fresh sc h e.owner e.act given was guard (guard_advance sc h e.owner e.act given was.holds was.fresh.clocks guard);
  talks = guard_talks sc h e.owner e.act given was guard (guard_advance sc h e.owner e.act given was.holds was.fresh.clocks guard);
}

none_sent : {P : Type 0} (x : Packet) → Contains [] x → P
none_sent x has = absurd (omega (arith, has.1))

pub first_lasts : (sc : Scenario) → Lasts sc []
first_lasts sc = record {
  holds = first_holds sc;
  fresh = record {
    clocks = λ s. record { same = λ up. absurd cc; shut = λ up. absurd cc; tail = tt };
    incs = λ b has. absurd (omega (arith, has.1));
    seqs = λ b has. absurd (omega (arith, has.1));
    once = λ b c first second. absurd (omega (arith, first.1));
    known = λ s up. tt;
    counts = λ s up b has. absurd (omega (arith, has.1));
  };
  talks = record {
    known = λ t n y d. none_sent d.packet d.has;
    nth = λ t n y d up same. none_sent d.packet d.has;
    told = λ t s m up low high. absurd cc;
    heard = λ t m s up told. absurd cc;
    took = λ t m y up came. absurd cc;
    asked = λ t m y d. none_sent d.packet d.has;
    done = λ q y d. none_sent d.packet d.has;
    last = λ t n m y p d. none_sent d.packet d.has;
    unheard = λ t n p up same none. none_sent p.packet p.has;
    before = λ t n m y z first second less. none_sent first.packet first.has;
    high = λ t n y d. none_sent d.packet d.has;
    rest = λ asks recovers. refl;
  };
}

after_lasts : (sc : Scenario) (before rest : List Entry) → IsGiven sc → Lasts sc before → LegalAfter sc before rest → Lasts sc (before ++ rest)
after_lasts sc before [] given was legal = let P : List Entry → Type 0 = Lasts sc in subst P (sym (append-nil before)) was
after_lasts sc before (e ∷ rest) given was legal = let P : List Entry → Type 0 = Lasts sc in
    subst P (append_assoc before (e ∷ []) rest) (after_lasts sc (before ++ e ∷ []) rest given (guard_lasts sc before e given was legal.0) legal.1)

pub legal_lasts : (sc : Scenario) (h : List Entry) → IsGiven sc → IsLegal sc h → Lasts sc h
legal_lasts sc h given legal = after_lasts sc [] h given (first_lasts sc) legal
