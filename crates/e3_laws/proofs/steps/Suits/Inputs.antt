-- What a step of a site sends, records and tells meets its bounds, where its inputs suit the site.
use Rattle.std.proofs.Common.{◌≡◌, ◌==◌, ◌∷◌, [], ℕ, suc, true, false, List, refl, sym, length, arith}
use Rattle.std.specs.List.{AllByRecursion as Each}
use Rattle.std.proofs.lemmas.Bool.{and_parts}
use Rattle.e3_types.specs.declared.entries.Input.{Input}
use Rattle.e3_types.specs.declared.entries.Input.TheVariants as input
use Rattle.e3_types.specs.declared.messages.Message.TheVariants as msg
use Rattle.e3_types.specs.declared.transactions.Txn.{Txn}
use Rattle.e3_types.specs.Sets.{has_site, is_within}
use Rattle.e3_world.specs.declared.lives.At.{At}
use Rattle.e3_world.specs.declared.lives.Incarnation.{Incarnation}
use Rattle.e3_world.specs.Lives.{life_of}
use Rattle.e3_world.specs.Logs.{key_of}
use Rattle.e3_world.specs.Moves.{unnumbered_input}
use Rattle.e3_world.specs.Operations.{expected, issued}
use Rattle.e3_world.specs.Sound.{txn_in}
use Rattle.e3_world.specs.Steps.{step_of}
use Rattle.e3_laws.proofs.steps.Taking.{Takes, keep_step, next_election}
use Rattle.e3_laws.specs.steps.Bounds.{BeginsOwn, MayHear, Suits, SuitsLog}
use Rattle.e3_laws.proofs.steps.Suits.Among.{hear, hear_all, within_self}
use Rattle.e3_laws.proofs.steps.Suits.Arriving.{AllSuit}
use Rattle.e3_laws.proofs.steps.Suits.Keeping.{Keeps, Knows, Sends, kept}
use Rattle.e3_laws.proofs.steps.Suits.Handling.{Ready, aborts, allows, casts, concludes, hears, joins, settles}

-- the requests for votes go to sites of the transaction
asks : (a : At) (t : Txn) (sites : List ℕ) → Knows a t → is_within sites t.sites ≡ true →
    Each (λ s. (s == a.site) ≡ false → MayHear a.weights s a.site (msg.VoteReq t (expected a.site a.life.inc t a.life.steps s).inc (expected a.site a.life.inc t a.life.steps s).count)) sites
asks a t [] known within = tt
asks a t (s ∷ sites) known within = (
  (λ apart. (hear_all a.weights a.site (msg.VoteReq t (expected a.site a.life.inc t a.life.steps s).inc (expected a.site a.life.inc t a.life.steps s).count) (s ∷ sites) known within (λ x. tt)).0),
  asks a t sites known (and_parts (has_site t.sites s) (is_within sites t.sites) within).1,
)

takes : (a : At) (i : Input) → Suits a.weights a.site i → Ready a → Takes a (SuitsLog a.weights a.site) (BeginsOwn a.weights a.site) (Sends a) (Keeps a) i
takes a (input.Begin sites) fit ready = (fit, refl)
takes a (input.Do t op) fit ready = (
  (λ why is. tt),
  (λ allowed.
      hear a.weights (key_of op).site a.site (msg.Do t (suc (length (issued t a.life.steps))) op) fit.0 fit.2 (sym fit.1, refl, omega arith)),
)
takes a (input.Commit t) fit ready = (
  (λ why is. tt),
  record {
    allows = allows a t fit.0 ready;
    asks = asks a t t.sites fit.0 (within_self t.sites);
    concludes = concludes a t t.sites fit.0 (within_self t.sites);
  },
)
takes a (input.Cancel t) fit ready = ((λ why is. tt), allows a t fit.0 ready, aborts a t fit.0)
takes a (input.Expire t) fit ready = (allows a t fit ready, aborts a t fit)
takes a (input.Elect t group) fit ready = (allows a t fit.0 ready, casts a (msg.Ask t (next_election a t group).call) group fit.0 fit.2 (λ s. tt), joins a t (next_election a t group) fit.0 fit.2)
takes a (input.Deliver p) fit ready = (allows a (txn_in p.msg) fit.2.among ready, hears a p.«from» p.msg fit.2 ready)

pub suits_unnumbered : (weights : List ℕ) (site : ℕ) (i : Input) → Suits weights site i → Suits weights site (unnumbered_input i)
suits_unnumbered weights site (input.Deliver p) fit = fit
suits_unnumbered weights site i fit = fit

-- the place of a step
abbrev pub place : List ℕ → ℕ → Incarnation → Input → At
place weights site now i = record { weights = weights; site = site; life = life_of now; input = unnumbered_input i }

pub step_keeps : (weights : List ℕ) (site : ℕ) (now : Incarnation) (i : Input) → AllSuit weights site (life_of now).steps → Suits weights site i →
    Keeps (place weights site now i) (step_of weights site now i)
step_keeps weights site now i suit fit =
    let a : At = place weights site now i in
    let ready : Ready a = record { steps = suit; input = suits_unnumbered weights site i fit } in
    keep_step (kept a) (settles a ready) (takes a a.input ready.input ready) (record { own = tt; outs = tt; records = tt; told = tt })
