-- All packets that a step sends come from its site.
use Rattle.std.proofs.Common.{◌≡◌, ◌==◌, ℕ, Bool, true, false, List, refl}
use Rattle.std.specs.List.{list_all}
use Rattle.e3_types.specs.declared.entries.Input.{Input}
use Rattle.e3_types.specs.declared.messages.Message.{Message}
use Rattle.e3_types.specs.declared.records.Record.{Record}
use Rattle.e3_world.specs.declared.lives.At.{At}
use Rattle.e3_world.specs.declared.lives.Incarnation.{Incarnation}
use Rattle.e3_world.specs.declared.lives.Made.{Made}
use Rattle.e3_world.specs.Lives.{life_of}
use Rattle.e3_world.specs.Making.{and_send}
use Rattle.e3_world.specs.Moves.{unnumbered_input}
use Rattle.e3_world.specs.Steps.{step_at, step_of}
use Rattle.e3_world.proofs.Turns.{self}
use Rattle.e3_laws.proofs.steps.Adding.{Preserves}
use Rattle.e3_laws.proofs.steps.Lists.{one_more}
use Rattle.e3_laws.proofs.steps.Whatever.{AnySent, AnyTold, keep_whole}

-- all packets that were made so far come from the site
record From (a : At) (made : Made) : Type 0 where
  pub outs : list_all (λ p. p.«from» == a.site) made.outs ≡ true

-- every record keeps it
abbrev AnyRecord : Record → Type 0
AnyRecord r = Unit {0}

sent : (a : At) (to : ℕ) (m : Message) (made : Made) → From a made → From a (and_send a to m made)
sent a to m made so_far = by (to == a.site) refl
  where
    by : (b : Bool) → (to == a.site) ≡ b → From a (and_send a to m made)
    by true is = rw is (record { outs = so_far.outs })
    by false is = rw is (record { outs = one_more (λ p. p.«from» == a.site) made.outs (record { number = 0; «from» = a.site; to = to; msg = m }) so_far.outs (self a.site) })

kept : (a : At) → Preserves a AnyRecord AnyTold AnySent (From a)
kept a = record {
  records = λ r made any so_far. record { outs = so_far.outs };
  tells = λ e made any so_far. record { outs = so_far.outs };
  sends = λ to m made any so_far. sent a to m made so_far;
}

-- a whole step
pub sends_own : (weights : List ℕ) (site : ℕ) (now : Incarnation) (i : Input) → list_all (λ p. p.«from» == site) (step_of weights site now i).outs ≡ true
sends_own weights site now i =
    let a : At = record { weights = weights; site = site; life = life_of now; input = unnumbered_input i } in
    let all : From a (step_at a) = keep_whole a AnyRecord (From a)
    (record { vote = λ t made free. tt; join = λ t n. tt; attempt = λ t n dir made free. tt; decision = λ t dir made free. tt })
    (kept a) (λ made so_far. record { outs = so_far.outs }) (record { outs = refl }) in
    all.outs
