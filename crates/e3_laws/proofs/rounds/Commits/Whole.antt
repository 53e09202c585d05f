-- The law of the commit round, whole.
use Rattle.std.proofs.Common.{◌≡◌, ◌⊎◌, ◌==◌, ◌&&◌, ◌||◌, ◌+◌, ◌*◌, ◌≤◌, ◌∷◌, ◌++◌, [], ℕ, zero, suc, Bool, true, false, not, List, Option, Some, None, refl, ap, sym, subst, ◌∙◌, append-nil, append_assoc, length, eqb-true, true≢false, arith, inl, inr, count_by, filter_map, slice_get, nat_le}
use Rattle.std.specs.List.{list_all}
use Rattle.std.proofs.lemmas.Bool.{and_parts}
use Rattle.std.proofs.lemmas.List.Sums.{sum_by-append}
use Rattle.e3_types.specs.declared.entries.Entry.{Entry}
use Rattle.e3_types.specs.declared.entries.Input.{Input}
use Rattle.e3_types.specs.declared.entries.Input.TheVariants as input
use Rattle.e3_types.specs.declared.messages.Packet.{Packet}
use Rattle.e3_types.specs.declared.scenarios.Item.TheVariants as item
use Rattle.e3_types.specs.declared.scenarios.Scenario.{Scenario}
use Rattle.e3_types.specs.declared.transactions.Txn.{Txn}
use Rattle.e3_types.specs.Quorums.{is_quorum}
use Rattle.e3_types.specs.Sets.{has_site, others}
use Rattle.e3_world.specs.declared.lives.Expected.{Expected}
use Rattle.e3_world.specs.Items.{input_of, inputs_at, inputs_to, is_delivery, is_up_at, plan_of, taken_at, to_line, turn_of, txn_of}
use Rattle.e3_world.specs.Legal.{Guard, IsLegal, IsNextItem, IsStep, LegalAfter, entry_of}
use Rattle.e3_world.specs.Packets.{fate_of, outs_of, pending, present_items, sent, step_items}
use Rattle.e3_world.proofs.Lines.{lines_to}
use Rattle.e3_world.proofs.Pushes.{legal_push}
use Rattle.e3_world.proofs.Readings.{taken_same, to_push}
use Rattle.e3_world.proofs.Turns.{self}
use Rattle.e3_laws.specs.agreement.Logs.{IsIn}
use Rattle.e3_laws.specs.steps.Bounds.{Suits}
use Rattle.e3_laws.proofs.steps.Suits.Laws.{inputs_suit}
use Rattle.e3_laws.proofs.rounds.Deliveries.Counted.{is_counted}
use Rattle.e3_laws.specs.rounds.Commits.{CommitsEnd, all_once, commit_entry, expected_of, is_committed, is_entry_of, is_once, is_packet_of, may_vote}
use Rattle.e3_laws.proofs.rounds.Commits.Begins.{begins, fits_of}
use Rattle.e3_laws.proofs.rounds.Commits.Ends.{NoItems, Walked, ends_committed, still_on, up_on, walk}
use Rattle.e3_laws.proofs.rounds.Commits.Quorum.{covers}
use Rattle.e3_laws.proofs.rounds.Commits.Sets.{sites_set, sites_weigh}
use Rattle.e3_laws.proofs.rounds.Commits.Shapes.{rest_of}
use Rattle.e3_laws.proofs.rounds.Commits.Stages.{Committed, Ground, Stage, bound, weight}
use Rattle.e3_laws.proofs.steps.Tests.{same_self}
use Rattle.e3_laws.proofs.rounds.Beginning.{legal_behind}
use Rattle.e3_laws.proofs.rounds.Deliveries.Walking.{items_on}

after_front : (sc : Scenario) (before xs ys : List Entry) → LegalAfter sc before (xs ++ ys) → LegalAfter sc before xs
after_front sc before [] ys legal = tt
after_front sc before (x ∷ xs) ys legal = (legal.0, after_front sc (before ++ x ∷ []) xs ys legal.1)

join_legal : (sc : Scenario) (before xs : List Entry) → IsLegal sc before → LegalAfter sc before xs → IsLegal sc (before ++ xs)
join_legal sc before [] legal more = subst (IsLegal sc) (sym (append-nil before)) legal
join_legal sc before (x ∷ xs) legal more =
    subst (IsLegal sc) (append_assoc before (x ∷ []) xs) (join_legal sc (before ++ x ∷ []) xs (legal_push sc before x legal more.0) more.1)

-- a legal history in parts: up to an entry, the entry, and what comes behind it
record Parted (sc : Scenario) (xs : List Entry) (c : Entry) (more after : List Entry) : Type 0 where
  front : IsLegal sc xs
  guard : Guard sc xs c
  then_legal : IsLegal sc (xs ++ c ∷ [])
  rest : LegalAfter sc (xs ++ c ∷ []) more
  whole : IsLegal sc ((xs ++ c ∷ []) ++ more)

parted : (sc : Scenario) (xs : List Entry) (c : Entry) (more after : List Entry) → LegalAfter sc [] (xs ++ c ∷ more ++ after) → Parted sc xs c more after
parted sc xs c more after legal =
    let up_to : LegalAfter sc [] (xs ++ c ∷ more) = after_front sc [] (xs ++ c ∷ more) after legal in
    let behind = legal_behind sc [] xs (c ∷ more) up_to in
    let front : IsLegal sc xs = after_front sc [] xs (c ∷ more) up_to in
    let rest : LegalAfter sc (xs ++ c ∷ []) more = behind.1 in
    let then_legal : IsLegal sc (xs ++ c ∷ []) = legal_push sc xs c front behind.0 in
    record { front = front; guard = behind.0; then_legal = then_legal; rest = rest; whole = join_legal sc (xs ++ c ∷ []) more then_legal rest }

step_guard : (sc : Scenario) (h : List Entry) (o : ℕ) (i : Input) → Guard sc h (entry_of sc h o i) → IsStep sc h o i (entry_of sc h o i).act
step_guard sc h zero i guard = absurd guard
step_guard sc h (suc s) i guard = guard

all_at : (P : ℕ → Bool) (xs : List ℕ) (y : ℕ) → list_all P xs ≡ true → has_site xs y ≡ true → P y ≡ true
all_at P [] y all has = absurd cc
all_at P (x ∷ xs) y all has = by (λ more. all_at P xs y (and_parts (P x) (list_all P xs) all).1 more) (x == y) refl has
  where
    by : (has_site xs y ≡ true → P y ≡ true) → (b : Bool) → (x == y) ≡ b → ((x == y) || has_site xs y) ≡ true → P y ≡ true
    by more true is has = ap P (sym (eqb-true x y is)) ∙ (and_parts (P x) (list_all P xs) all).0
    by more false is has = more (ap (λ b. b || has_site xs y) (sym is) ∙ has)

fewer : (s : ℕ) (xs : List ℕ) → has_site xs s ≡ true → suc (length (others s xs)) ≤ length xs
fewer s [] has = absurd cc
fewer s (x ∷ xs) has = by (λ more. fewer s xs more) (x == s) refl has
  where
    less : (xs : List ℕ) → length (others s xs) ≤ length xs
    less [] = omega arith
    less (x ∷ xs) = choose (less xs) (x == s) refl
      where
        choose : length (others s xs) ≤ length xs → (b : Bool) → (x == s) ≡ b → length (others s (x ∷ xs)) ≤ length (x ∷ xs)
        choose rest true is = rw is (omega (arith, rest))
        choose rest false is = rw is (omega (arith, rest))

    by : (has_site xs s ≡ true → suc (length (others s xs)) ≤ length xs) → (b : Bool) → (x == s) ≡ b → ((x == s) || has_site xs s) ≡ true → suc (length (others s (x ∷ xs))) ≤ length (x ∷ xs)
    by more true is has = let rest : length (others s xs) ≤ length xs = less xs in rw is (omega (arith, rest))
    by more false is has = let rest : suc (length (others s xs)) ≤ length xs = more (ap (λ b. b || has_site xs s) (sym is) ∙ has) in rw is (omega (arith, rest))

-- a site of the transaction is the coordinator or another
split_site : (s y : ℕ) (xs : List ℕ) → has_site xs y ≡ true → (y ≡ s) ⊎ (has_site (others s xs) y ≡ true)
split_site s y xs has = by (y == s) refl
  where
    go : (xs : List ℕ) → (y == s) ≡ false → has_site xs y ≡ true → has_site (others s xs) y ≡ true
    go [] apart has = has
    go (x ∷ xs) apart has = at (λ more. go xs apart more) (x == y) refl (x == s) refl has
      where
        at : (has_site xs y ≡ true → has_site (others s xs) y ≡ true) → (b : Bool) → (x == y) ≡ b → (c : Bool) → (x == s) ≡ c → ((x == y) || has_site xs y) ≡ true → has_site (others s (x ∷ xs)) y ≡ true
        at more true is true of has = absurd (true≢false (sym (ap (λ n. n == s) (sym (eqb-true x y is)) ∙ of) ∙ apart))
        at more true is false of has = rw of (rw is refl)
        at more false is true of has = rw of (more (ap (λ b. b || has_site xs y) (sym is) ∙ has))
        at more false is false of has = rw of (rw is (more (ap (λ b. b || has_site xs y) (sym is) ∙ has)))

    by : (b : Bool) → (y == s) ≡ b → (y ≡ s) ⊎ (has_site (others s xs) y ≡ true)
    by true is = inl (eqb-true y s is)
    by false is = inr (go xs is has)

-- the one item of the step, and its input
record Asks (sc : Scenario) (start : List Entry) (t : Txn) (name : List ℕ) : Type 0 where
  named : txn_of sc (to_line start) name ≡ Some t
  alone : plan_of sc start ≡ record { site = t.site; input = input.Commit t } ∷ []

asks_of_step : (sc : Scenario) (start : List Entry) (t : Txn) (name : List ℕ) → present_items sc start ≡ item.Commit name ∷ [] → IsNextItem sc start t.site (input.Commit t) → Asks sc start t name
asks_of_step sc start t name items next = by (txn_of sc (to_line start) name) refl
  where
    here : present_items sc (to_line start) ≡ item.Commit name ∷ []
    here = ap (step_items sc) (lines_to start) ∙ items

    planned : plan_of sc start ≡ filter_map (input_of sc (to_line start)) (item.Commit name ∷ [])
    planned = ap (filter_map (input_of sc (to_line start))) here

    get_nil : (n : ℕ) → slice_get [] n ≡ Some (input.Commit t) → ⊥
    get_nil zero is = cc
    get_nil (suc n) is = cc

    by : (o : Option Txn) → txn_of sc (to_line start) name ≡ o → Asks sc start t name
    by None none =
        let empty : plan_of sc start ≡ [] = planned ∙ rw none refl in
        absurd (get_nil (turn_of start t.site) (ap (λ l. slice_get (inputs_to t.site l) (turn_of start t.site)) (sym empty) ∙ next.next))
    by (Some u) some = choose (u.site == t.site) refl (turn_of start t.site) (ap (λ l. slice_get (inputs_to t.site l) (turn_of start t.site)) (sym one) ∙ next.next)
      where
        one : plan_of sc start ≡ record { site = u.site; input = input.Commit u } ∷ []
        one = planned ∙ rw some refl

        get_end : (n : ℕ) → slice_get (input.Commit u ∷ []) n ≡ Some (input.Commit t) → u ≡ t
        get_end zero is = cc
        get_end (suc n) is = absurd (get_nil n is)

        choose : (b : Bool) → (u.site == t.site) ≡ b → (n : ℕ) → slice_get (inputs_to t.site (record { site = u.site; input = input.Commit u } ∷ [])) n ≡ Some (input.Commit t) → Asks sc start t name
        choose true same n is =
            let inside : inputs_to t.site (record { site = u.site; input = input.Commit u } ∷ []) ≡ input.Commit u ∷ [] = rw same refl in
            let u_is : u ≡ t = get_end n (ap (λ l. slice_get l n) (sym inside) ∙ is) in
            record { named = some ∙ ap Some u_is; alone = one ∙ ap (λ (x : Txn). record { site = x.site; input = input.Commit x } ∷ []) u_is }
        choose false other n is =
            let inside : inputs_to t.site (record { site = u.site; input = input.Commit u } ∷ []) ≡ [] = rw other refl in
            absurd (get_nil n (ap (λ l. slice_get l n) (sym inside) ∙ is))

-- behind the Commit no item is left
none_left : (sc : Scenario) (start : List Entry) (t : Txn) (name : List ℕ) → Asks sc start t name → NoItems sc (start ++ entry_of sc start t.site (input.Commit t) ∷ [])
none_left sc start t name asks s = by (t.site == s) refl
  where
    e : Entry
    e = entry_of sc start t.site (input.Commit t)

    planned : plan_of sc (start ++ e ∷ []) ≡ record { site = t.site; input = input.Commit t } ∷ []
    planned = ap (λ k. filter_map (input_of sc k) (present_items sc k)) (to_push start e refl) ∙ asks.alone

    by : (b : Bool) → (t.site == s) ≡ b → length (inputs_at sc (start ++ e ∷ []) s) ≤ turn_of (start ++ e ∷ []) s
    by true same =
        let turn : turn_of (start ++ e ∷ []) s ≡ turn_of start s + 1 = ap (count_by (λ i. not (is_delivery i))) (taken_same start e s refl same) ∙ sum_by-append _ (taken_at start s) (input.Commit t ∷ []) in
        let many : length (inputs_at sc (start ++ e ∷ []) s) ≡ 1 = ap (λ l. length (inputs_to s l)) planned ∙ rw same refl in
        omega (arith, turn, many)
    by false other =
        let many : length (inputs_at sc (start ++ e ∷ []) s) ≡ 0 = ap (λ l. length (inputs_to s l)) planned ∙ rw other refl in
        omega (arith, many)

stage_few : (sc : Scenario) (t : Txn) (wants : ℕ → Expected) (h : List Entry) (n : ℕ) → Stage sc t wants h n → n ≤ bound t
stage_few sc t wants h n (Stage.One o) = let few : n + weight sc t h + 3 * length (rest_of t) ≤ bound t = o.few in omega (arith, few)
stage_few sc t wants h n (Stage.Two o) = let few : n + weight sc t h + length (rest_of t) ≤ bound t = o.few in omega (arith, few)
stage_few sc t wants h n (Stage.Three o) = let few : n + weight sc t h ≤ bound t = o.few in omega (arith, few)

commit_once : (sc : Scenario) (t : Txn) (start : List Entry) (more : List Entry) → all_once sc t start (commit_entry sc start t ∷ more) ≡ true →
    (list_all (λ p. not (is_packet_of t p) || is_once (fate_of sc start p)) (outs_of (commit_entry sc start t).act) ≡ true) × (all_once sc t (start ++ commit_entry sc start t ∷ []) more ≡ true)
commit_once sc t start more once = and_parts (list_all (λ p. not (is_packet_of t p) || is_once (fate_of sc start p)) (outs_of (commit_entry sc start t).act)) (all_once sc t (start ++ commit_entry sc start t ∷ []) more) once

pub commits_end : CommitsEnd
commits_end sc history t given legal s = record {
  committed = λ y has. over y (split_site t.site y t.sites has);
  few = (
      let walked_count : 1 + count_by (is_entry_of t packets) s.more ≤ walked.m = walked.grows in
      let all : count_by (is_entry_of t packets) (c ∷ s.more) ≡ count_by (is_entry_of t packets) (c ∷ []) + count_by (is_entry_of t packets) s.more = sum_by-append _ (c ∷ []) s.more in
      let one : count_by (is_entry_of t packets) (c ∷ []) ≡ 1 = rw (same_self t) refl in
      let few : walked.m ≤ bound t = stage_few sc t wants (h ++ s.more) walked.m walked.stage in
      let less : suc (length (rest_of t)) ≤ length t.sites = fewer t.site t.sites home in
      omega (arith, walked_count, all, one, few, less));
}
  where
    c : Entry
    c = commit_entry sc s.start t

    h : List Entry
    h = s.start ++ c ∷ []

    wants : ℕ → Expected
    wants = expected_of sc s.start t

    packets : List Packet
    packets = sent (s.start ++ c ∷ s.more)

    split : LegalAfter sc [] (s.start ++ c ∷ s.more ++ s.after)
    split = subst (IsLegal sc) s.is legal

    parts : Parted sc s.start c s.more s.after
    parts = parted sc s.start c s.more s.after split

    front : IsLegal sc s.start
    front = parts.front

    guard : IsStep sc s.start t.site (input.Commit t) c.act
    guard = step_guard sc s.start t.site (input.Commit t) parts.guard

    suits : Suits sc.weights t.site (input.Commit t)
    suits = inputs_suit sc s.start t.site (input.Commit t) given front guard.due

    among : (has_site t.sites t.site ≡ true) × (list_all (λ x. nat_le 1 x && nat_le x (length sc.weights)) t.sites ≡ true)
    among = and_parts (has_site t.sites t.site) (list_all (λ x. nat_le 1 x && nat_le x (length sc.weights)) t.sites) suits.0

    home : has_site t.sites t.site ≡ true
    home = among.0

    asks : Asks sc s.start t s.name
    asks = asks_of_step sc s.start t s.name s.one_item guard.due

    is_covered : (came : List ℕ) → ((y : ℕ) → has_site (rest_of t) y ≡ true → has_site came y ≡ true) → is_quorum sc.weights (t.site ∷ came) t.sites ≡ true
    is_covered came within = covers sc.weights t.sites (t.site ∷ came) (sites_set sc s.start s.name t given front asks.named) (sites_weigh sc.weights t.sites t.site given.weighed among.1 home)
        (λ y has. at y (split_site t.site y t.sites has))
      where
        at : (y : ℕ) → (y ≡ t.site) ⊎ (has_site (rest_of t) y ≡ true) → has_site (t.site ∷ came) y ≡ true
        at y (inl is) = ap (λ b. b || has_site came y) (ap (λ n. t.site == n) is ∙ self t.site)
        at y (inr has) = in_rest (t.site == y) (has_site came y) (within y has)
          where
            in_rest : (a b : Bool) → b ≡ true → (a || b) ≡ true
            in_rest true b is = refl
            in_rest false b is = is

    fit : (y : ℕ) → has_site t.sites y ≡ true → may_vote sc s.start t y ≡ true
    fit y has = all_at (may_vote sc s.start t) t.sites y s.may_vote has

    ground : Ground sc t s.start
    ground = record {
      given = given;
      legal = front;
      counted = is_counted sc s.start given front;
      home = home;
      up = λ y has. all_at (is_up_at s.start) t.sites y s.up has;
      still = λ y has. (fits_of sc s.start t y (fit y has)).still;
    }

    behind : IsLegal sc h
    behind = parts.then_legal

    once : (list_all (λ p. not (is_packet_of t p) || is_once (fate_of sc s.start p)) (outs_of (commit_entry sc s.start t).act) ≡ true) × (all_once sc t (s.start ++ commit_entry sc s.start t ∷ []) s.more ≡ true)
    once = commit_once sc t s.start s.more s.once

    first : Stage sc t wants h 1
    first = begins sc s.start t (record { ground = ground; once = once.0; settled = s.settled; not_refused = s.not_refused; fit = fit; covers = is_covered })

    next : Ground sc t h
    next = record {
      given = given;
      legal = behind;
      counted = is_counted sc h given behind;
      home = home;
      up = λ y has. up_on s.start c y (λ b. refl) (ground.up y has);
      still = λ y has. still_on sc t s.start t.site y (input.Commit t) refl (ground.still y has);
    }

    same_whole : h ++ s.more ≡ s.start ++ c ∷ s.more
    same_whole = append_assoc s.start (c ∷ []) s.more

    whole : IsLegal sc (s.start ++ c ∷ s.more)
    whole = subst (IsLegal sc) same_whole parts.whole

    walked : Walked sc t wants packets h s.more 1
    walked = walk sc t wants packets h s.more 1 next (record {
      none = none_left sc s.start t s.name asks;
      name = s.name;
      items = items_on sc s.start c refl ∙ s.one_item;
      guards = parts.rest;
      line = s.one_step;
      falls = s.none_falls;
      once = once.1;
      numbers = (is_counted sc (s.start ++ c ∷ s.more) given whole).numbers;
      sub = λ q k. subst (λ l. IsIn q (sent l)) same_whole k;
    }) first

    ends : Committed sc t (h ++ s.more) t.site × ((y : ℕ) → has_site (rest_of t) y ≡ true → Committed sc t (h ++ s.more) y)
    ends = ends_committed sc t wants (h ++ s.more) walked.m (ap (pending sc) same_whole ∙ s.ended) is_covered walked.stage

    over : (y : ℕ) → (y ≡ t.site) ⊎ (has_site (rest_of t) y ≡ true) → is_committed sc (s.start ++ c ∷ s.more) t y
    over y (inl is) = subst (λ l. Committed sc t l y) same_whole (subst (Committed sc t (h ++ s.more)) (sym is) ends.0)
    over y (inr has) = subst (λ l. Committed sc t l y) same_whole (ends.1 y has)
