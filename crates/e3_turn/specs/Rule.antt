-- The rule of the turn lock, which holds between any two steps: a fact on the words of the table, the value at home and what all passes know.
-- Word 0 counts the tickets that were drawn, word 1 those that were served, both modulo 2^64. The one slot has the value.
use Rattle.std.specs.Prelude.{◌≡◌, ℕ, suc, ◌+◌, ◌%◌, ◌^◌, ◌<◌, ◌≤◌, ◌⊎◌, Bool, true, false, cond, eqb, List, [], ◌∷◌, ◌++◌, length, Option, Some}
use mathlib.Core.Option as maybe
use mathlib.Core.Option.{some, none}
use lib.ListN.{get_elem?}
use Rattle.atomic_table.specs.Table.{State}
use Rattle.e3_turn.specs.declared.view.View.{View}
use Rattle.e3_turn.specs.Chronicles.{count_of, without, down_from, longer, ExtendsByOthers, LongerExtends}

-- f of each, added up
abbrev pub total : {A : Type 0} → (A → ℕ) → List A → ℕ
total f [] = 0
total f (x ∷ xs) = f x + total f xs

module _ {M : Type 0} where
  -- 1 where the pass has a ticket
  abbrev pub waiting : View M → ℕ
  waiting v = cond v.waits 1 0

  -- 1 where the pass has the turn
  abbrev pub turning : View M → ℕ
  turning v = cond v.has_turn 1 0

  -- 1 where the pass has this ticket
  abbrev pub has_ticket : ℕ → View M → ℕ
  has_ticket t v = cond v.waits (cond (eqb v.ticket t) 1 0) 0

  -- the first pass, which owns all
  abbrev pub newcomer : ℕ → List M → View M
  newcomer last seen = record { last = last; owners = down_from last; seen = seen; waits = false; ticket = 0; has_turn = false; chosen = 0; first_owners = []; first_seen = []; second_owners = []; second_seen = [] }

  -- a pass that was joined into another
  abbrev pub nobody : View M
  nobody = record { last = 0; owners = []; seen = []; waits = false; ticket = 0; has_turn = false; chosen = 0; first_owners = []; first_seen = []; second_owners = []; second_seen = [] }

  abbrev pub with_ticket : View M → ℕ → View M
  with_ticket v t = record v { waits = true; ticket = t }

  abbrev pub with_turn : View M → List M → View M
  with_turn v chronicle = record v { has_turn = true; seen = chronicle }

  abbrev pub at_rest : View M → List M → View M
  at_rest v chronicle = record v { waits = false; has_turn = false; seen = chronicle }

  abbrev pub choosing : View M → ℕ → View M
  choosing v o = record v { chosen = o }

  -- what stays of a pass that gives its chosen owner away
  abbrev pub kept_part : View M → View M
  kept_part v = record v { owners = without v.chosen v.owners }

  -- the pass of the owner that was given away
  abbrev pub dealt_part : View M → View M
  dealt_part v = record v { owners = v.chosen ∷ []; first_owners = []; first_seen = []; second_owners = []; second_seen = [] }

  abbrev pub joined : View M → View M → View M
  joined v w = record v { owners = v.owners ++ w.owners; seen = longer v.seen w.seen; first_owners = v.owners; first_seen = v.seen; second_owners = w.owners; second_seen = w.seen }

module _ {M : Type 0} (belongs : M → ℕ → Bool) where
  -- what the rule says of one pass
  pub record PassFits (last served drawn : ℕ) (chronicle : List M) (v : View M) : Type 0 where
    -- it knows the last owner, and its owners are owners
    pub lasts : 0 < length v.owners → v.last ≡ last
    pub below : (o : ℕ) → 0 < count_of o v.owners → o ≤ last
    -- its ticket is one that is not served yet, and it has an owner
    pub start : v.waits ≡ true → served ≤ v.ticket
    pub end : v.waits ≡ true → v.ticket < drawn
    pub owns : v.waits ≡ true → 0 < length v.owners
    -- with the turn it has the ticket that is served, and has seen all
    pub waits : v.has_turn ≡ true → v.waits ≡ true
    pub now : v.has_turn ≡ true → v.ticket ≡ served
    pub whole : v.has_turn ≡ true → v.seen ≡ chronicle
    -- behind what it has seen no mark is its owners'
    pub grown : 0 < length v.owners → ExtendsByOthers belongs last v.owners v.seen chronicle
    pub olds : (0 < length v.first_owners) × (0 < length v.second_owners) → LongerExtends belongs last v.first_owners v.first_seen v.second_owners v.second_seen

module _ {X M : Type 0} (marks : X → List M) where
  -- where no pass has the turn, the value with this chronicle is at home; else one has it, and the slot is out
  abbrev pub Home : List (maybe.Option (Option X)) → List M → ℕ → Type 0
  Home homes chronicle turns = ((x : X) × (homes ≡ some (Some x) ∷ []) × (marks x ≡ chronicle) × (turns ≡ 0)) ⊎ ((homes ≡ none ∷ []) × (turns ≡ 1))

module _ {X M : Type 0} (marks : X → List M) (belongs : M → ℕ → Bool) (last : ℕ) (s : State (Option X) (View M)) where
  -- the rule, at this many tickets served and drawn, and with this chronicle
  pub record HoldsAt (served drawn : ℕ) (chronicle : List M) : Type 0 where
    pub words : s.words ≡ drawn % 2 ^ 64 ∷ served % 2 ^ 64 ∷ []
    pub few : last < 2 ^ 32
    -- each ticket from served up to drawn is with one pass
    pub counted : served + total waiting s.views ≡ drawn
    pub tickets : (t : ℕ) → served ≤ t → t < drawn → total (has_ticket t) s.views ≡ 1
    -- each owner is in one pass, once
    pub bound : total (λ v. length v.owners) s.views ≡ suc last
    pub owners : (o : ℕ) → o ≤ last → total (λ v. count_of o v.owners) s.views ≡ 1
    pub fits : (id : ℕ) (v : View M) → get_elem? s.views id ≡ some v → PassFits belongs last served drawn chronicle v
    pub home : Home marks s.homes chronicle (total turning s.views)

  abbrev pub Holds : Type 0
  Holds = (served : ℕ) × (drawn : ℕ) × (chronicle : List M) × HoldsAt served drawn chronicle
