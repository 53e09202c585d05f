-- What an elector has gathered, one step at a time.
use Rattle.std.proofs.Common.{◌≡◌, ◌==◌, ◌+◌, ℕ, Bool, true, false, List, [], ◌∷◌, ◌++◌, None, ◌∙◌, ap, sym, subst, refl, eqb-true, fold, map, count_by, arith}
use Rattle.std.proofs.lemmas.Grind.{fold-append}
use Rattle.std.proofs.lemmas.List.Sums.{sum_by-append}
use Rattle.e3_types.specs.declared.entries.Entry.{Entry}
use Rattle.e3_types.specs.declared.entries.Input.{Input}
use Rattle.e3_types.specs.declared.entries.Input.TheVariants as input
use Rattle.e3_types.specs.declared.messages.Packet.{Packet}
use Rattle.e3_types.specs.declared.scenarios.Scenario.{Scenario}
use Rattle.e3_types.specs.declared.transactions.Txn.{Txn}
use Rattle.e3_world.specs.Gatherings.{Elections, Rounds}
use Rattle.e3_world.specs.declared.lives.Life.{Life}
use Rattle.e3_world.specs.declared.lives.Made.{Made}
use Rattle.e3_world.specs.declared.lives.Moment.{Moment}
use Rattle.e3_world.specs.Elections.{election_by, is_elect}
use Rattle.e3_world.specs.Legal.{entry_of, made_by}
use Rattle.e3_world.specs.Lives.{incarnation_of, life_at, life_of}
use Rattle.e3_world.specs.Moves.{moves_of, unnumbered, unnumbered_input}
use Rattle.e3_world.specs.Rounds.{round_by}
use Rattle.e3_world.specs.Sound.{step_move}
use Rattle.e3_world.proofs.Pushes.{incarnation_push, life_push}
use Rattle.e3_laws.proofs.steps.Moving.{moves_on, moves_still}

-- a step as it is kept
abbrev pub moment_of : Life → Input → Made → Moment
moment_of life i made = record { before = life.log; input = unnumbered_input i; records = made.records; outs = map unnumbered made.outs; told = made.told }

abbrev pub life_with : Life → Input → Made → Life
life_with life i made = record { log = life.log ++ made.records; inc = life.inc; steps = life.steps ++ moment_of life i made ∷ [] }

-- the life of a site behind its step
pub life_on : (sc : Scenario) (h : List Entry) (site : ℕ) (i : Input) →
    life_at (moves_of sc (h ++ entry_of sc h site i ∷ []) site) ≡ life_with (life_at (moves_of sc h site)) i (made_by sc h site i)
life_on sc h site i =
    ap life_at (moves_on sc h site i)
    ∙ ap life_of (incarnation_push (moves_of sc h site) (step_move sc site (moves_of sc h site) i))
    ∙ life_push (incarnation_of (moves_of sc h site)) _

-- the elections of a transaction that a life has gathered, and its rounds
abbrev pub elections_of : ℕ → Txn → Life → Elections
elections_of site t life = fold (election_by site life.inc t) (record { calls = 0; now = None }) life.steps

abbrev pub rounds_of : ℕ → Txn → Life → Rounds
rounds_of site t life = fold (round_by site t) (record { group = []; now = None }) life.steps

pub elections_on : (site : ℕ) (t : Txn) (life : Life) (i : Input) (made : Made) →
    elections_of site t (life_with life i made) ≡ election_by site life.inc t (elections_of site t life) (moment_of life i made)
elections_on site t life i made = fold-append (election_by site life.inc t) _ life.steps (moment_of life i made ∷ [])

pub rounds_on : (site : ℕ) (t : Txn) (life : Life) (i : Input) (made : Made) →
    rounds_of site t (life_with life i made) ≡ round_by site t (rounds_of site t life) (moment_of life i made)
rounds_on site t life i made = fold-append (round_by site t) _ life.steps (moment_of life i made ∷ [])

-- the group of the last Elect, which a delivery leaves as it is
abbrev pub group_at : Scenario → List Entry → ℕ → Txn → List ℕ
group_at sc h site t = (rounds_of site t (life_at (moves_of sc h site))).group

pub group_on : (sc : Scenario) (h : List Entry) (site s : ℕ) (t : Txn) (p : Packet) →
    group_at sc (h ++ entry_of sc h s (input.Deliver p) ∷ []) site t ≡ group_at sc h site t
group_on sc h site s t p = by (s == site) refl
  where
    by : (b : Bool) → (s == site) ≡ b → group_at sc (h ++ entry_of sc h s (input.Deliver p) ∷ []) site t ≡ group_at sc h site t
    by false other = ap (λ l. (rounds_of site t (life_at l)).group) (moves_still sc h s site (input.Deliver p) other)
    by true is =
        let P : ℕ → Type 0 = λ u. group_at sc (h ++ entry_of sc h u (input.Deliver p) ∷ []) site t ≡ group_at sc h site t in
        let here : P site =
        ap (λ (l : Life). (rounds_of site t l).group) (life_on sc h site (input.Deliver p))
        ∙ ap (λ (x : Rounds). x.group) (rounds_on site t (life_at (moves_of sc h site)) (input.Deliver p) (made_by sc h site (input.Deliver p))) in
        subst P (sym (eqb-true s site is)) here

-- the calls are counted alike
one_call : (site inc : ℕ) (t : Txn) (was : Elections) (m : Moment) → (election_by site inc t was m).calls ≡ was.calls + count_by is_elect (m ∷ [])
one_call site inc t was m = by m.input refl
  where
    by : (i : Input) → m.input ≡ i → (election_by site inc t was m).calls ≡ was.calls + count_by is_elect (m ∷ [])
    by (input.Elect u group) is = rw is (omega arith)
    by (input.Begin sites) is = rw is (omega arith)
    by (input.Do u op) is = rw is (omega arith)
    by (input.Commit u) is = rw is (omega arith)
    by (input.Cancel u) is = rw is (omega arith)
    by (input.Expire u) is = rw is (omega arith)
    by (input.Deliver packet) is = rw is (omega arith)

calls_from : (site inc : ℕ) (t : Txn) (was : Elections) (steps : List Moment) →
    (fold (election_by site inc t) was steps).calls ≡ was.calls + count_by is_elect steps
calls_from site inc t was [] = omega arith
calls_from site inc t was (m ∷ steps) =
    let rest : (fold (election_by site inc t) (election_by site inc t was m) steps).calls ≡ (election_by site inc t was m).calls + count_by is_elect steps =
    calls_from site inc t (election_by site inc t was m) steps in
    let one = one_call site inc t was m in
    let both : count_by is_elect (m ∷ steps) ≡ count_by is_elect (m ∷ []) + count_by is_elect steps = sum_by-append _ (m ∷ []) steps in
    omega (arith, rest, one, both)

pub calls_are : (site : ℕ) (t : Txn) (life : Life) → (elections_of site t life).calls ≡ count_by is_elect life.steps
calls_are site t life = let all = calls_from site life.inc t (record { calls = 0; now = None }) life.steps in omega (arith, all)
