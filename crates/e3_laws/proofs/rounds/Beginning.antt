-- What stands where a round begins: its members are up and in one part, the network is calm, and nothing is pending.
use Rattle.std.proofs.Common.{◌≡◌, ◌==◌, ◌&&◌, ◌||◌, ◌++◌, ◌∷◌, [], ℕ, Bool, true, false, List, Option, Some, None, append-nil, append_assoc, filter, find, ◌∙◌, ap, sym, subst, refl, eqb-true}
use Rattle.std.specs.List.{flat_map, list_all, list_any}
use Rattle.std.proofs.lemmas.Bool.{and_parts}
use Rattle.std.proofs.lemmas.Grind.{fold-append}
use Rattle.e3_types.specs.declared.entries.Entry.{Entry}
use Rattle.e3_types.specs.declared.scenarios.Item.{Item}
use Rattle.e3_types.specs.declared.scenarios.Item.TheVariants as item
use Rattle.e3_types.specs.declared.scenarios.Scenario.{Scenario}
use Rattle.e3_types.specs.Sets.{has_site, is_within, others}
use Rattle.e3_world.specs.Fate.{same_part}
use Rattle.e3_world.specs.Given.{IsGiven}
use Rattle.e3_world.specs.Items.{RecoveryRound, due_round, elected_txn, inputs_of, is_up_at, listed, recover_group, rounds_left, since_line, to_line}
use Rattle.e3_world.specs.Legal.{IsLegal, LegalAfter}
use Rattle.e3_world.specs.Packets.{is_calm, is_line, parts_of, pending, present_items}
use Rattle.e3_world.proofs.Pushes.{legal_front}
use Rattle.e3_world.proofs.Turns.{self}
use Rattle.e3_laws.specs.rounds.Queues.{IsCounted}
use Rattle.e3_laws.specs.rounds.Rounds.{elect_entry, elects}
use Rattle.e3_laws.proofs.rounds.Deliveries.Counted.{is_counted}
use Rattle.e3_laws.proofs.rounds.Phases.Members.{IsShaped, due_shaped}
use Rattle.e3_laws.proofs.rounds.Deliveries.Parts.{group_in_one_part}
use Rattle.e3_laws.proofs.rounds.Phases.Due.{round_turns}
use Rattle.e3_laws.proofs.rounds.Phases.Walked.{Each, Turn}
use Rattle.e3_laws.proofs.rounds.Deliveries.Walking.{Rest, items_on}

-- a round is due in a recover step alone
group_recovers : (items : List Item) (group : List ℕ) → recover_group items ≡ Some group → (rest : List Item) × (items ≡ item.Recover group ∷ rest)
group_recovers [] group is = absurd cc
group_recovers (item.Recover sites ∷ items) group is = (items, (let same : sites ≡ group = cc in ap (λ g. item.Recover g ∷ items) same))
group_recovers (item.Begin name site sites ∷ items) group is = absurd cc
group_recovers (item.Read name key ∷ items) group is = absurd cc
group_recovers (item.Write name key val ∷ items) group is = absurd cc
group_recovers (item.Commit name ∷ items) group is = absurd cc
group_recovers (item.Cancel name ∷ items) group is = absurd cc
group_recovers (item.Expire site name ∷ items) group is = absurd cc
group_recovers (item.Elect site name sites ∷ items) group is = absurd cc
group_recovers (item.Split parts ∷ items) group is = absurd cc
group_recovers (item.Merge ∷ items) group is = absurd cc
group_recovers (item.Crash site ∷ items) group is = absurd cc
group_recovers (item.Restart site ∷ items) group is = absurd cc
group_recovers (item.Stop site count leave ∷ items) group is = absurd cc

due_recovers : (sc : Scenario) (start : List Entry) (r : RecoveryRound) → due_round sc start ≡ Some r →
    (group : List ℕ) × (items : List Item) × (present_items sc start ≡ item.Recover group ∷ items)
due_recovers sc start r due = by (recover_group (present_items sc start)) refl
  where
    due_at : Option (List ℕ) → Option RecoveryRound
    due_at None = None
    due_at (Some g) = find (λ x. is_up_at start x.elector) (rounds_left (flat_map elected_txn (flat_map (λ e. inputs_of e.act) (since_line start))) (listed sc (to_line start) g))

    is_at : due_at (recover_group (present_items sc start)) ≡ Some r
    is_at = (let same : due_at (recover_group (present_items sc start)) ≡ due_round sc start = refl in same) ∙ due

    by : (o : Option (List ℕ)) → recover_group (present_items sc start) ≡ o → (group : List ℕ) × (items : List Item) × (present_items sc start ≡ item.Recover group ∷ items)
    by None is = absurd (let clash : None ≡ Some r = sym (ap due_at is) ∙ is_at in cc)
    by (Some group) is = let found = group_recovers (present_items sc start) group is in (group, found.0, found.1)

-- sites of a list
pub each_site : (p : ℕ → Bool) (xs : List ℕ) (s : ℕ) → list_all p xs ≡ true → has_site xs s ≡ true → p s ≡ true
each_site p [] s all has = absurd cc
each_site p (x ∷ xs) s all has =
    let parts = and_parts (p x) (list_all p xs) all in
    by (λ later. each_site p xs s parts.1 later) parts.0 (x == s) refl has
  where
    by : (has_site xs s ≡ true → p s ≡ true) → p x ≡ true → (b : Bool) → (x == s) ≡ b → ((x == s) || has_site xs s) ≡ true → p s ≡ true
    by rest first true is has = subst (λ y. p y ≡ true) (eqb-true x s is) first
    by rest first false is has = rest (ap (λ b. b || has_site xs s) (sym is) ∙ has)

pub kept_site : (p : ℕ → Bool) (xs : List ℕ) (s : ℕ) → has_site (filter p xs) s ≡ true → (has_site xs s ≡ true) × (p s ≡ true)
kept_site p [] s has = absurd cc
kept_site p (x ∷ xs) s has = by (λ later. kept_site p xs s later) (p x) refl (x == s) refl
  where
    or_true : (b : Bool) → (b || true) ≡ true
    or_true true = refl
    or_true false = refl

    by : (has_site (filter p xs) s ≡ true → (has_site xs s ≡ true) × (p s ≡ true)) → (b : Bool) → p x ≡ b → (c : Bool) → (x == s) ≡ c → (has_site (x ∷ xs) s ≡ true) × (p s ≡ true)
    by rest true is true same = (rw same refl, subst (λ y. p y ≡ true) (eqb-true x s same) is)
    by rest true is false other =
        let later = rest ((let on : has_site (filter p (x ∷ xs)) s ≡ has_site (filter p xs) s = rw (is, other) refl in sym on) ∙ has) in
        (ap (λ b. (x == s) || b) later.0 ∙ or_true (x == s), later.1)
    by rest false is c any =
        let later = rest ((let on : has_site (filter p (x ∷ xs)) s ≡ has_site (filter p xs) s = rw is refl in sym on) ∙ has) in
        (ap (λ b. (x == s) || b) later.0 ∙ or_true (x == s), later.1)

-- two sites of a group that lies in one part
in_one : (parts : List (List ℕ)) (group : List ℕ) (s u : ℕ) → list_any (is_within group) parts ≡ true → has_site group s ≡ true → has_site group u ≡ true → same_part parts s u ≡ true
in_one [] group s u within first second = absurd cc
in_one (part ∷ parts) group s u within first second = by (λ later. in_one parts group s u later first second) (is_within group part) refl
  where
    or_true : (b : Bool) → (b || true) ≡ true
    or_true true = refl
    or_true false = refl

    by : (list_any (is_within group) parts ≡ true → same_part parts s u ≡ true) → (b : Bool) → is_within group part ≡ b → same_part (part ∷ parts) s u ≡ true
    by rest true is = rw (each_site (has_site part) group s is first, each_site (has_site part) group u is second) refl
    by rest false is = ap (λ b. (has_site part s && has_site part u) || b) (rest (ap (λ b. b || list_any (is_within group) parts) (sym is) ∙ within)) ∙ or_true (has_site part s && has_site part u)

-- the entries behind some of a legal history
pub legal_behind : (sc : Scenario) (before h more : List Entry) → LegalAfter sc before (h ++ more) → LegalAfter sc (before ++ h) more
legal_behind sc before [] more legal = subst (λ l. LegalAfter sc l more) (sym (append-nil before)) legal
legal_behind sc before (x ∷ h) more legal = subst (λ l. LegalAfter sc l more) (append_assoc before (x ∷ []) h) (legal_behind sc (before ++ x ∷ []) h more legal.1)

-- what is known at a round's begin
pub record Begun (sc : Scenario) (start more : List Entry) (r : RecoveryRound) : Type 0 where
  pub given : IsGiven sc
  pub legal : IsLegal sc (start ++ elect_entry sc start r ∷ more)
  pub legal_start : IsLegal sc start
  pub calm : is_calm (present_items sc start) ≡ true
  pub counted : IsCounted sc start
  pub settled : pending sc start ≡ []
  pub one_round : list_any elects more ≡ false
  pub rest : Rest sc r.members (start ++ elect_entry sc start r ∷ []) more
  pub together : (x : ℕ) → has_site r.members x ≡ true → same_part (parts_of sc start) r.elector x ≡ true
  pub sites : (x : ℕ) → has_site r.members x ≡ true → has_site r.txn.sites x ≡ true
  pub all : List ℕ
  pub members : r.members ≡ r.elector ∷ all
  pub receivers : others r.elector r.members ≡ all
  pub turns : Each (Turn r) [] all

pub round_begins : (sc : Scenario) (start more : List Entry) (r : RecoveryRound) → IsGiven sc → IsLegal sc (start ++ elect_entry sc start r ∷ more) → due_round sc start ≡ Some r →
    pending sc start ≡ [] → list_any is_line more ≡ false → list_any elects more ≡ false → pending sc (start ++ elect_entry sc start r ∷ more) ≡ [] →
    list_all (is_up_at (start ++ elect_entry sc start r ∷ more)) r.members ≡ true → Begun sc start more r
round_begins sc start more r given legal due settled one_step one_round ended up = record {
  given = given;
  legal = legal;
  legal_start = legal_start;
  calm = ap is_calm recovers;
  counted = is_counted sc start given legal_start;
  settled = settled;
  one_round = one_round;
  rest = record {
    given = given;
    group = group;
    items = at.1;
    recovers = items_on sc start e refl ∙ recovers;
    together = λ s u first second. ap (λ l. same_part l s u) parts_same ∙ in_one (parts_of sc start) group s u one_part (in_group s first) (in_group u second);
    guards = legal_behind sc [] (start ++ e ∷ []) more (subst (IsLegal sc) (sym assoc) legal);
    no_line = one_step;
    ended = ap (pending sc) assoc ∙ ended;
    up = λ s member. ap (λ l. is_up_at l s) assoc ∙ each_site (is_up_at (start ++ e ∷ more)) r.members s up member;
  };
  together = λ x member. in_one (parts_of sc start) group r.elector x one_part (in_group r.elector leads) (in_group x member);
  sites = λ x member. (kept_site (has_site r.txn.sites) (filter (is_up_at (to_line start)) group) x (ap (λ l. has_site l x) (sym shaped.among) ∙ member)).1;
  all = turns.0;
  members = turns.1;
  receivers = turns.2;
  turns = turns.3;
}
  where
    e : Entry
    e = elect_entry sc start r

    legal_start : IsLegal sc start
    legal_start = legal_front sc start (e ∷ more) legal

    at : (group : List ℕ) × (items : List Item) × (present_items sc start ≡ item.Recover group ∷ items)
    at = due_recovers sc start r due

    group : List ℕ
    group = at.0

    recovers : present_items sc start ≡ item.Recover group ∷ at.1
    recovers = at.2

    assoc : (start ++ e ∷ []) ++ more ≡ start ++ e ∷ more
    assoc = append_assoc start (e ∷ []) more

    shaped : IsShaped (filter (is_up_at (to_line start)) group) r
    shaped = (due_shaped sc start group at.1 r recovers due).0

    turns : (all : List ℕ) × (r.members ≡ r.elector ∷ all) × (others r.elector r.members ≡ all) × Each (Turn r) [] all
    turns = round_turns sc start group at.1 r given recovers due

    leads : has_site r.members r.elector ≡ true
    leads = ap (λ l. has_site l r.elector) turns.1 ∙ rw (self r.elector) refl

    one_part : list_any (is_within group) (parts_of sc start) ≡ true
    one_part = group_in_one_part sc start group at.1 given legal_start recovers

    parts_same : parts_of sc (start ++ e ∷ []) ≡ parts_of sc start
    parts_same = fold-append _ _ start (e ∷ [])

    in_group : (s : ℕ) → has_site r.members s ≡ true → has_site group s ≡ true
    in_group s member =
        (kept_site (is_up_at (to_line start)) group s
        (kept_site (has_site r.txn.sites) (filter (is_up_at (to_line start)) group) s (ap (λ l. has_site l s) (sym shaped.among) ∙ member)).0).0
