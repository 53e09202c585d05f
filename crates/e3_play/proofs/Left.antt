-- Which rounds of a recovery step are left, and which of them is due.
use Rattle.std.proofs.Common.{◌≡◌, ◌∙◌, ◌++◌, ◌∷◌, [], ℕ, Bool, true, false, List, Some, fold, filter, refl, sym, subst, ap, append_assoc}
use Rattle.std.specs.Prelude.{find}
use Rattle.std.specs.List.{flat_map}
use Rattle.e3_types.specs.declared.entries.Entry.{Entry}
use Rattle.e3_types.specs.declared.scenarios.Item.TheVariants as item
use Rattle.e3_types.specs.declared.scenarios.Scenario.{Scenario}
use Rattle.e3_types.specs.declared.transactions.Txn.{Txn}
use Rattle.e3_types.specs.Same.{same_txn}
use Rattle.e3_types.specs.Sets.{has_site}
use Rattle.e3_world.specs.Items.{RecoveryRound, add_txn, due_round, elected_txn, inputs_of, is_up_at, listed, open_at, recover_group, rounds_left, to_line}
use Rattle.e3_world.specs.Packets.{is_line, present_items}
use Rattle.e3_world.proofs.Lines.{left_push, made_push, made_txns}
use Rattle.e3_world.proofs.Readings.{to_push}
use Rattle.e3_world.proofs.Turns.{true_not_false}
use Rattle.e3_readings.specs.RoundOf.{round_of}
use Rattle.e3_play.proofs.Order.{Ascending, Behind, ascending_all, same_is, same_self}

-- none of these rounds is of the transaction of the first
abbrev pub Differ : RecoveryRound → List RecoveryRound → Type 0
Differ r [] = Unit {0}
Differ r (q ∷ qs) = (same_txn q.txn r.txn ≡ false) × Differ r qs

-- no two of these rounds are of one transaction
abbrev pub Apart : List RecoveryRound → Type 0
Apart [] = Unit {0}
Apart (r ∷ rs) = Differ r rs × Apart rs

-- the electors of these rounds are down
abbrev pub AllDown : List Entry → List RecoveryRound → Type 0
AllDown h [] = Unit {0}
AllDown h (r ∷ rs) = (is_up_at h r.elector ≡ false) × AllDown h rs

apart_back : (t u : Txn) → same_txn t u ≡ false → same_txn u t ≡ false
apart_back t u apart = by (same_txn u t) refl
  where
    by : (b : Bool) → same_txn u t ≡ b → same_txn u t ≡ false
    by false is = is
    by true is = absurd (true_not_false (sym (subst (λ v. same_txn v u ≡ true) (same_is u t is) (same_self u)) ∙ apart))

-- the rounds of transactions that ascend are apart
differ_listed : (members : Txn → List ℕ) (r : RecoveryRound) (ts : List Txn) → Behind r.txn ts → Differ r (flat_map (λ t. round_of t (members t)) ts)
differ_listed members r [] all = tt
differ_listed members r (t ∷ ts) all = by (members t) (differ_listed members r ts all.1)
  where
    by : (xs : List ℕ) → Differ r (flat_map (λ t. round_of t (members t)) ts) → Differ r (round_of t xs ++ flat_map (λ t. round_of t (members t)) ts)
    by [] rest = rest
    by (x ∷ xs) rest = (apart_back r.txn t all.0.apart, rest)

apart_listed : (members : Txn → List ℕ) (ts : List Txn) → Ascending ts → Apart (flat_map (λ t. round_of t (members t)) ts)
apart_listed members [] all = tt
apart_listed members (t ∷ ts) all = by (members t) (apart_listed members ts all.1)
  where
    by : (xs : List ℕ) → Apart (flat_map (λ t. round_of t (members t)) ts) → Apart (round_of t xs ++ flat_map (λ t. round_of t (members t)) ts)
    by [] rest = rest
    by (x ∷ xs) rest = (differ_listed members (record { txn = t; members = x ∷ xs; elector = x }) ts all.0, rest)

pub listed_apart : (sc : Scenario) (h : List Entry) (group : List ℕ) → Apart (listed sc h group)
listed_apart sc h group =
    let up : List ℕ = filter (is_up_at h) group in
    apart_listed (λ t. filter (has_site t.sites) up) (fold add_txn [] (flat_map (open_at sc h) up)) (ascending_all [] (flat_map (open_at sc h) up) tt)

-- the rounds behind these are apart too
apart_rest : (xs ys : List RecoveryRound) → Apart (xs ++ ys) → Apart ys
apart_rest [] ys all = all
apart_rest (x ∷ xs) ys all = apart_rest xs ys all.1

differ_at : (p r : RecoveryRound) (xs ys : List RecoveryRound) → Differ p (xs ++ r ∷ ys) → same_txn r.txn p.txn ≡ false
differ_at p r [] ys all = all.0
differ_at p r (x ∷ xs) ys all = differ_at p r xs ys all.1

-- behind the Elect of a round those behind it are left
left_behind : (passed rest : List RecoveryRound) (r : RecoveryRound) → Apart (passed ++ r ∷ rest) → rounds_left (r.txn ∷ []) (passed ++ r ∷ rest) ≡ rest
left_behind [] rest r all = rw (same_self r.txn) refl
left_behind (p ∷ passed) rest r all = rw (differ_at p r passed rest all.0) (left_behind passed rest r all.1)

-- a round is looked for behind those whose electors are down
find_behind : (h : List Entry) (passed rest : List RecoveryRound) → AllDown h passed →
    find (λ r. is_up_at h r.elector) (passed ++ rest) ≡ find (λ r. is_up_at h r.elector) rest
find_behind h [] rest all = refl
find_behind h (p ∷ passed) rest all = rw all.0 (find_behind h passed rest all.1)

down_too : (h : List Entry) (passed : List RecoveryRound) (r : RecoveryRound) → AllDown h passed → is_up_at h r.elector ≡ false → AllDown h (passed ++ r ∷ [])
down_too h [] r all down = (down, tt)
down_too h (p ∷ passed) r all down = (all.0, down_too h passed r all.1 down)

-- a recovery step comes to these rounds: what it has left are those that it passed over, whose electors are down, and these
pub record AtRounds (sc : Scenario) (h : List Entry) (group : List ℕ) (rest : List RecoveryRound) : Type 0 where
  pub passed : List RecoveryRound
  pub left : rounds_left (made_txns h) (listed sc (to_line h) group) ≡ passed ++ rest
  pub down : AllDown h passed
  pub apart : Apart (passed ++ rest)

-- the round that is due is the first of them whose elector is up
pub due_is : (sc : Scenario) (h : List Entry) (group : List ℕ) (rest : List RecoveryRound) → present_items sc h ≡ item.Recover group ∷ [] → AtRounds sc h group rest →
    due_round sc h ≡ find (λ r. is_up_at h r.elector) rest
due_is sc h group rest step at =
    let is : recover_group (present_items sc h) ≡ Some group = ap recover_group step in
    let due : due_round sc h ≡ find (λ r. is_up_at h r.elector) (rounds_left (made_txns h) (listed sc (to_line h) group)) = rw is refl in
    due ∙ ap (find (λ r. is_up_at h r.elector)) at.left ∙ find_behind h at.passed rest at.down

pub first_due : (sc : Scenario) (h : List Entry) (group : List ℕ) (rest : List RecoveryRound) (r : RecoveryRound) → present_items sc h ≡ item.Recover group ∷ [] →
    AtRounds sc h group (r ∷ rest) → is_up_at h r.elector ≡ true → due_round sc h ≡ Some r
first_due sc h group rest r step at up =
    let found : find (λ q. is_up_at h q.elector) (r ∷ rest) ≡ Some r = rw up refl in
    due_is sc h group (r ∷ rest) step at ∙ found

-- a round is passed over
pub pass_over : (sc : Scenario) (h : List Entry) (group : List ℕ) (rest : List RecoveryRound) (r : RecoveryRound) → AtRounds sc h group (r ∷ rest) →
    is_up_at h r.elector ≡ false → AtRounds sc h group rest
pass_over sc h group rest r at down = record {
  passed = at.passed ++ r ∷ [];
  left = at.left ∙ sym all;
  down = down_too h at.passed r at.down down;
  apart = subst Apart (sym all) at.apart;
}
  where
    all : (at.passed ++ r ∷ []) ++ rest ≡ at.passed ++ r ∷ rest
    all = append_assoc at.passed (r ∷ []) rest

-- just these rounds are left
pub record AreLeft (sc : Scenario) (h : List Entry) (group : List ℕ) (rest : List RecoveryRound) : Type 0 where
  pub left : rounds_left (made_txns h) (listed sc (to_line h) group) ≡ rest
  pub apart : Apart rest

-- a round has its Elect
pub elect_on : (sc : Scenario) (h : List Entry) (group : List ℕ) (rest : List RecoveryRound) (r : RecoveryRound) (e : Entry) → AtRounds sc h group (r ∷ rest) →
    is_line e ≡ false → flat_map elected_txn (inputs_of e.act) ≡ r.txn ∷ [] → AreLeft sc (h ++ e ∷ []) group rest
elect_on sc h group rest r e at stays elects = record {
  left =
      ap (λ l. rounds_left l (listed sc (to_line (h ++ e ∷ [])) group)) (made_push h e stays ∙ ap (λ l. made_txns h ++ l) elects)
      ∙ ap (λ l. rounds_left (made_txns h ++ r.txn ∷ []) (listed sc l group)) (to_push h e stays)
      ∙ left_push (made_txns h) r.txn (listed sc (to_line h) group)
      ∙ ap (rounds_left (r.txn ∷ [])) at.left
      ∙ left_behind at.passed rest r at.apart;
  apart = (apart_rest at.passed (r ∷ rest) at.apart).1;
}
