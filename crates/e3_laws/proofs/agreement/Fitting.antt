-- In a scenario that keeps the rules, whatever is due at a site fits it.
use Rattle.std.proofs.Common.{◌≡◌, ◌⊎◌, inl, inr, ◌∷◌, [], ◌++◌, ◌==◌, ℕ, zero, suc, Bool, true, false, List, fold, Option, Some, None, refl, sym, ap, subst, ◌∙◌, if◌then◌else◌, cond, eqb-true, eq-eqb, append-nil, append_assoc}
use Rattle.std.specs.Prelude.{slice_get, filter, filter_map, find, option_map}
use Rattle.std.specs.List.{flat_map}
use Rattle.std.proofs.lemmas.Grind.{fold-append}
use Rattle.e3_types.specs.declared.entries.Act.{Act}
use Rattle.e3_types.specs.declared.entries.Act.TheVariants.{Step, Fall, Rise, RiseFall, Miss, Cut, Drop, Parts, Line}
use Rattle.e3_types.specs.declared.entries.Entry.{Entry}
use Rattle.e3_types.specs.declared.entries.Input.{Input}
use Rattle.e3_types.specs.declared.entries.Input.TheVariants as input
use Rattle.e3_types.specs.declared.scenarios.Item.{Item}
use Rattle.e3_types.specs.declared.scenarios.Item.TheVariants as item
use Rattle.e3_types.specs.declared.scenarios.Scenario.{Scenario}
use Rattle.e3_types.specs.declared.transactions.Op.TheVariants.{Read, Write}
use Rattle.e3_types.specs.declared.transactions.Txn.{Txn}
use Rattle.e3_types.specs.Same.{same_numbers, same_txn}
use Rattle.e3_types.specs.Sets.{has_site, is_within}
use Rattle.e3_types.proofs.SameSites.{same_numbers_eq}
use Rattle.e3_world.specs.declared.names.Addressed.{Addressed}
use Rattle.e3_world.specs.declared.names.Binding.{Binding}
use Rattle.e3_world.specs.declared.names.Bound.{Bound}
use Rattle.e3_world.specs.Given.{IsGiven}
use Rattle.e3_world.specs.Items.{AroundLine, around_by, to_line, since_line, binding_by, last_bound, txn_of, input_of, inputs_to, inputs_at, inputs_of, is_delivery, is_up_at, turn_of, open_at, add_txn, elected_txn, RecoveryRound, listed, recover_group, rounds_left, due_round}
use Rattle.e3_world.specs.Legal.{IsDue, AreDue, IsNextItem, IsRound, Guard, LegalAfter, IsLegal, entry_of}
use Rattle.e3_world.specs.Packets.{is_line, lines, present_items, step_items, all_sites}
use Rattle.e3_world.proofs.Readings.{up_same}
use Rattle.e3_laws.specs.agreement.Logs.{IsIn}
use Rattle.e3_laws.proofs.agreement.Protocol.Shares.{in_from_has}
use Rattle.e3_laws.specs.agreement.Histories.{ItemsFit, AllFit}
use Rattle.e3_laws.specs.agreement.Rows.{MayTake}
use Rattle.e3_laws.proofs.agreement.Refinement.Lists.{in_left, in_map, in_flat_map, has_from_in}
use Rattle.e3_laws.proofs.agreement.Refinement.Sites.{within_in, within_from}
use Rattle.e3_laws.proofs.agreement.Refinement.Following.{in_from_contains}
use Rattle.e3_laws.proofs.agreement.Named.{begun, ItemNamed, StepNamed, Names, names_of_steps}
use Rattle.e3_laws.proofs.agreement.BegunNames.{Counted, step_case, step_on, counted_on, counted_start}
use Rattle.e3_laws.proofs.steps.Items.{plan_is, binding, round_of}

-- what is bound goes on to be bound
binds_more : (sc : Scenario) (was : Binding) (owner : ℕ) (act : Act) (b : Bound) → IsIn b was.bound → IsIn b (binding_by sc was (record { owner = owner; act = act })).bound
binds_more sc was owner (Step (input.Begin sites) records outs events) b k = in_left b was.bound _ k
binds_more sc was owner (Step (input.Do u op) records outs events) b k = k
binds_more sc was owner (Step (input.Commit u) records outs events) b k = k
binds_more sc was owner (Step (input.Cancel u) records outs events) b k = k
binds_more sc was owner (Step (input.Expire u) records outs events) b k = k
binds_more sc was owner (Step (input.Elect u group) records outs events) b k = k
binds_more sc was owner (Step (input.Deliver packet) records outs events) b k = k
binds_more sc was owner (Fall inputs records why) b k = k
binds_more sc was owner (Rise kept inc) b k = k
binds_more sc was owner (RiseFall kept inc why) b k = k
binds_more sc was owner Miss b k = k
binds_more sc was owner Cut b k = k
binds_more sc was owner (Drop n) b k = k
binds_more sc was owner (Parts parts) b k = k
binds_more sc was owner (Line n) b k = k

bound_on : (sc : Scenario) (was : Binding) (more : List Entry) (b : Bound) → IsIn b was.bound → IsIn b (fold (binding_by sc) was more).bound
bound_on sc was [] b k = k
bound_on sc was (e ∷ more) b k = bound_on sc (binding_by sc was e) more b (binds_more sc was e.owner e.act b k)

-- a history is its two parts
split_from : (w : AroundLine) (h : List Entry) → (fold around_by w h).to ++ (fold around_by w h).since ≡ (w.to ++ w.since) ++ h
split_from w [] = sym (append-nil (w.to ++ w.since))
split_from w (e ∷ h) = by (is_line e) refl (λ v. split_from v h)
  where
    by : (b : Bool) → is_line e ≡ b → ((v : AroundLine) → (fold around_by v h).to ++ (fold around_by v h).since ≡ (v.to ++ v.since) ++ h)
        → (fold around_by w (e ∷ h)).to ++ (fold around_by w (e ∷ h)).since ≡ (w.to ++ w.since) ++ e ∷ h
    by true is rest =
        let v : AroundLine = record { to = w.to ++ w.since ++ e ∷ []; since = [] } in
        let same : around_by w e ≡ v = rw is refl in
        ap (λ (u : AroundLine). (fold around_by u h).to ++ (fold around_by u h).since) same ∙ rest v
        ∙ ap (λ z. z ++ h) (append-nil (w.to ++ w.since ++ e ∷ [])) ∙ append_assoc (w.to ++ w.since) (e ∷ []) h
    by false is rest =
        let v : AroundLine = record { to = w.to; since = w.since ++ e ∷ [] } in
        let same : around_by w e ≡ v = rw is refl in
        ap (λ (u : AroundLine). (fold around_by u h).to ++ (fold around_by u h).since) same ∙ rest v
        ∙ ap (λ z. z ++ h) (sym (append_assoc w.to w.since (e ∷ []))) ∙ append_assoc (w.to ++ w.since) (e ∷ []) h

-- what is bound up to the last line is bound
bound_to : (sc : Scenario) (h : List Entry) (b : Bound) → IsIn b (binding sc (to_line h)).bound → IsIn b (binding sc h).bound
bound_to sc h b k =
    let whole : to_line h ++ since_line h ≡ h = split_from (record { to = []; since = [] }) h in
    subst (λ z. IsIn b (binding sc z).bound) whole
    (subst (λ (z : Binding). IsIn b z.bound) (sym (fold-append (binding_by sc) (record { number = 0; begun_at = []; bound = [] }) (to_line h) (since_line h)))
    (bound_on sc (binding sc (to_line h)) (since_line h) b k))

-- the transaction of a name is bound to it
last_found : (name : List ℕ) (t : Txn) (bs : List Bound) (was : Option Txn) → fold (last_bound name) was bs ≡ Some t
    → (was ≡ Some t) ⊎ ((b : Bound) × IsIn b bs × (b.txn ≡ t) × (same_numbers name b.name ≡ true))
last_found name t [] was is = inl is
last_found name t (b ∷ bs) was is = go (last_found name t bs (last_bound name was b) is)
  where
    now : (c : Bool) → same_numbers name b.name ≡ c → (if c then Some b.txn else was) ≡ Some t → (was ≡ Some t) ⊎ ((x : Bound) × IsIn x (b ∷ bs) × (x.txn ≡ t) × (same_numbers name x.name ≡ true))
    now true same e = inr (b, inl refl, (let q : b.txn ≡ t = cc in q), same)
    now false same e = inl e

    go : (last_bound name was b ≡ Some t) ⊎ ((x : Bound) × IsIn x bs × (x.txn ≡ t) × (same_numbers name x.name ≡ true)) → (was ≡ Some t) ⊎ ((x : Bound) × IsIn x (b ∷ bs) × (x.txn ≡ t) × (same_numbers name x.name ≡ true))
    go (inl e) = now (same_numbers name b.name) refl e
    go (inr x) = inr (x.0, inr x.1, x.2, x.3)

-- the transaction of a name has the sites that were said for it, its coordinator among them
named_txn : (sc : Scenario) (h : List Entry) (names : Names sc.steps) (name : List ℕ) (t : Txn) → Counted sc h → txn_of sc (to_line h) name ≡ Some t
    → IsIn (begun name t.sites) names.all × (has_site t.sites t.site ≡ true)
named_txn sc h names name t c is = go (last_found name t (binding sc (to_line h)).bound None is)
  where
    of_step : (b : Bound) → b.txn ≡ t → same_numbers name b.name ≡ true → (k : ℕ) → IsIn (item.Begin b.name b.txn.site b.txn.sites) (step_items sc k)
        → (step_items sc k ≡ []) ⊎ StepNamed names.all (step_items sc k) → IsIn (begun name t.sites) names.all × (has_site t.sites t.site ≡ true)
    of_step b same called k there (inl none) = absurd (subst (λ z. IsIn (item.Begin b.name b.txn.site b.txn.sites) z) none there)
    of_step b same called k there (inr step) =
        let said : IsIn (begun b.name b.txn.sites) names.all × (has_site b.txn.sites b.txn.site ≡ true) = step.named (item.Begin b.name b.txn.site b.txn.sites) there in
        subst (λ (u : Txn). IsIn (begun name u.sites) names.all × (has_site u.sites u.site ≡ true)) same
        (subst (λ n. IsIn (begun n b.txn.sites) names.all) (sym (same_numbers_eq name b.name called)) said.0, said.1)

    go : (None ≡ Some t) ⊎ ((b : Bound) × IsIn b (binding sc (to_line h)).bound × (b.txn ≡ t) × (same_numbers name b.name ≡ true)) → IsIn (begun name t.sites) names.all × (has_site t.sites t.site ≡ true)
    go (inl e) = cc
    go (inr x) = let k = c.bound x.0 (bound_to sc h x.0 x.1) in of_step x.0 x.2 x.3 k.0 k.1 (step_case sc names k.0)

in_filter : {X : Type 0} (p : X → Bool) (xs : List X) (x : X) → IsIn x (filter p xs) → IsIn x xs × (p x ≡ true)
in_filter p [] x k = absurd k
in_filter p (y ∷ ys) x k = by (p y) refl k (λ q. in_filter p ys x q)
  where
    by : (b : Bool) → p y ≡ b → IsIn x (cond b (y ∷ filter p ys) (filter p ys)) → (IsIn x (filter p ys) → IsIn x ys × (p x ≡ true)) → IsIn x (y ∷ ys) × (p x ≡ true)
    by true is (inl e) rest = (inl e, ap p e ∙ is)
    by true is (inr q) rest = let t = rest q in (inr t.0, t.1)
    by false is q rest = let t = rest q in (inr t.0, t.1)

in_chosen : {X Y : Type 0} (f : X → Option Y) (xs : List X) (y : Y) → IsIn y (filter_map f xs) → (x : X) × IsIn x xs × (f x ≡ Some y)
in_chosen f [] y k = absurd k
in_chosen {X = X} {Y = Y} f (x ∷ xs) y k = by (f x) refl (λ q. in_chosen f xs y q)
  where
    by : (o : Option Y) → f x ≡ o → (IsIn y (filter_map f xs) → (z : X) × IsIn z xs × (f z ≡ Some y)) → (z : X) × IsIn z (x ∷ xs) × (f z ≡ Some y)
    by None is rest =
        let less : filter_map f (x ∷ xs) ≡ filter_map f xs = rw is refl in
        let t = rest (subst (λ z. IsIn y z) less k) in
        (t.0, inr t.1, t.2)
    by (Some z) is rest =
        let more : filter_map f (x ∷ xs) ≡ z ∷ filter_map f xs = rw is refl in
        go z is (subst (λ q. IsIn y q) more k)
      where
        go : (z : Y) → f x ≡ Some z → IsIn y (z ∷ filter_map f xs) → (w : X) × IsIn w (x ∷ xs) × (f w ≡ Some y)
        go z is (inl e) = (x, inl refl, is ∙ ap Some (sym e))
        go z is (inr q) = let t = rest q in (t.0, inr t.1, t.2)

got : {X : Type 0} (xs : List X) (n : ℕ) (x : X) → slice_get xs n ≡ Some x → IsIn x xs
got [] n x is = cc
got (y ∷ ys) zero x is = inl (let q : x ≡ y = cc in q)
got (y ∷ ys) (suc n) x is = inr (got ys n x is)

-- the item of an input
planned_item : (f : Item → Option Addressed) (items : List Item) (s : ℕ) (i : Input) → IsIn i (inputs_to s (filter_map f items)) → (it : Item) × IsIn it items × (f it ≡ Some (record { site = s; input = i }))
planned_item f items s i k =
    let a = in_map (λ (x : Addressed). x.input) i (filter (λ x. x.site == s) (filter_map f items)) k in
    let g = in_filter (λ (x : Addressed). x.site == s) (filter_map f items) a.0 a.1 in
    let it = in_chosen f items a.0 g.0 in
    let here : a.0.site ≡ s = eqb-true a.0.site s g.1 in
    let this : a.0 ≡ record { site = s; input = i } = λ j. record { site = here j; input = sym a.2 j } in
    (it.0, it.1, it.2 ∙ ap Some this)

-- what an item asks of a site fits it
abbrev Asks : Option Txn → (Txn → Addressed) → ℕ → Input → Type 0
Asks o f s i = option_map f o ≡ Some (record { site = s; input = i })

asked : (o : Option Txn) (f : Txn → Addressed) (s : ℕ) (i : Input) → ((t : Txn) → o ≡ Some t → MayTake (f t).site (f t).input) → Asks o f s i → MayTake s i
asked None f s i fits is = cc
asked (Some t) f s i fits is =
    let this : f t ≡ record { site = s; input = i } = (let two : Some (f t) ≡ Some (record { site = s; input = i }) = is in cc) in
    subst (λ (a : Addressed). MayTake a.site a.input) this (fits t refl)

item_takes : (sc : Scenario) (h : List Entry) (names : Names sc.steps) (it : Item) (s : ℕ) (i : Input) → Counted sc h → ItemNamed names.all it
    → input_of sc (to_line h) it ≡ Some (record { site = s; input = i }) → MayTake s i
item_takes sc h names (item.Begin name u sites) s i c named is =
    let asks : Addressed = record { site = u; input = input.Begin sites } in
    let takes : Addressed = record { site = s; input = i } in
    let this : asks ≡ takes = (let two : Some asks ≡ Some takes = is in cc) in
    subst (λ (a : Addressed). MayTake a.site a.input) this tt
item_takes sc h names (item.Read name key) s i c named is =
    asked (txn_of sc (to_line h) name) (λ t. record { site = t.site; input = input.Do t (Read key) }) s i (λ t o.
    let n = named_txn sc h names name t c o in
    let same : named.0 ≡ t.sites = names.one name named.0 t.sites named.1 n.0 in
    (n.1, subst (λ z. has_site z key.site ≡ true) same named.2)) is
item_takes sc h names (item.Write name key val) s i c named is =
    asked (txn_of sc (to_line h) name) (λ t. record { site = t.site; input = input.Do t (Write key val) }) s i (λ t o.
    let n = named_txn sc h names name t c o in
    let same : named.0 ≡ t.sites = names.one name named.0 t.sites named.1 n.0 in
    (n.1, subst (λ z. has_site z key.site ≡ true) same named.2)) is
item_takes sc h names (item.Commit name) s i c named is =
    asked (txn_of sc (to_line h) name) (λ t. record { site = t.site; input = input.Commit t }) s i (λ t o. ((named_txn sc h names name t c o).1, refl)) is
item_takes sc h names (item.Cancel name) s i c named is =
    asked (txn_of sc (to_line h) name) (λ t. record { site = t.site; input = input.Cancel t }) s i (λ t o. refl) is
item_takes sc h names (item.Expire u name) s i c named is =
    asked (txn_of sc (to_line h) name) (λ t. record { site = u; input = input.Expire t }) s i (λ t o.
    let n = named_txn sc h names name t c o in
    let same : named.0 ≡ t.sites = names.one name named.0 t.sites named.1 n.0 in
    subst (λ z. has_site z u ≡ true) same named.2) is
item_takes sc h names (item.Elect u name group) s i c named is =
    asked (txn_of sc (to_line h) name) (λ t. record { site = u; input = input.Elect t group }) s i (λ t o.
    let n = named_txn sc h names name t c o in
    let same : named.0 ≡ t.sites = names.one name named.0 t.sites named.1 n.0 in
    let inside : is_within group t.sites ≡ true = subst (λ z. is_within group z ≡ true) same named.2 in
    (has_from_in u t.sites (within_in group t.sites inside u (in_from_has u group named.3)), named.3, inside)) is
item_takes sc h names (item.Recover all) s i c named is = cc
item_takes sc h names (item.Split parts) s i c named is = cc
item_takes sc h names item.Merge s i c named is = cc
item_takes sc h names (item.Crash u) s i c named is = cc
item_takes sc h names (item.Restart u) s i c named is = cc
item_takes sc h names (item.Stop u count leave) s i c named is = cc

next_takes : (sc : Scenario) (h : List Entry) (names : Names sc.steps) (s : ℕ) (i : Input) → Counted sc h → IsNextItem sc h s i → MayTake s i
next_takes sc h names s i c next =
    let k : IsIn i (inputs_to s (filter_map (input_of sc (to_line h)) (present_items sc h))) = subst (λ z. IsIn i (inputs_to s z)) (plan_is sc h) (got (inputs_at sc h s) (turn_of h s) i next.next) in
    let it = planned_item (input_of sc (to_line h)) (present_items sc h) s i k in
    by it.0 it.1 it.2 (step_case sc names (lines h))
  where
    by : (it : Item) → IsIn it (present_items sc h) → input_of sc (to_line h) it ≡ Some (record { site = s; input = i }) → (step_items sc (lines h) ≡ []) ⊎ StepNamed names.all (step_items sc (lines h)) → MayTake s i
    by it there is (inl none) = absurd (subst (λ z. IsIn it z) none there)
    by it there is (inr step) = item_takes sc h names it s i c (step.named it there) is

-- the rounds of a recover step are of sites of their transactions
find_in : {X : Type 0} (p : X → Bool) (xs : List X) (x : X) → find p xs ≡ Some x → IsIn x xs
find_in p [] x is = cc
find_in p (y ∷ ys) x is = by (p y) refl (λ q. find_in p ys x q)
  where
    by : (b : Bool) → p y ≡ b → (find p ys ≡ Some x → IsIn x ys) → IsIn x (y ∷ ys)
    by true at rest = inl (let this : Some y ≡ Some x = (let e : find p (y ∷ ys) ≡ Some y = rw at refl in sym e ∙ is) in (let q : x ≡ y = cc in q))
    by false at rest = inr (rest (let e : find p (y ∷ ys) ≡ find p ys = rw at refl in sym e ∙ is))

left_in : (ts : List Txn) (rounds : List RecoveryRound) (r : RecoveryRound) → IsIn r (rounds_left ts rounds) → IsIn r rounds
left_in [] rounds r k = k
left_in (t ∷ ts) [] r k = k
left_in (t ∷ ts) (x ∷ rounds) r k = by (same_txn t x.txn) k (λ q. left_in ts rounds r q) (λ q. left_in (t ∷ ts) rounds r q)
  where
    by : (b : Bool) → IsIn r (if b then rounds_left ts rounds else rounds_left (t ∷ ts) rounds) → (IsIn r (rounds_left ts rounds) → IsIn r rounds) → (IsIn r (rounds_left (t ∷ ts) rounds) → IsIn r rounds) → IsIn r (x ∷ rounds)
    by true q first second = inr (first q)
    by false q first second = inr (second q)

-- the round is of sites of its transaction, the elector among them
abbrev RoundFits : RecoveryRound → Type 0
RoundFits r = MayTake r.elector (input.Elect r.txn r.members)

round_fits : (t : Txn) (up l : List ℕ) → l ≡ filter (has_site t.sites) up → (r : RecoveryRound) → IsIn r (round_of t l) → RoundFits r
round_fits t up [] is r k = absurd k
round_fits t up (x ∷ more) is r (inl e) =
    let inside : (y : ℕ) → IsIn y (x ∷ more) → has_site t.sites y ≡ true = λ y q. (in_filter (has_site t.sites) up y (subst (λ z. IsIn y z) is q)).1 in
    subst RoundFits (sym e) (inside x (inl refl), has_from_in x (x ∷ more) (inl refl), within_from (x ∷ more) t.sites (λ y q. in_from_has y t.sites (inside y q)))
round_fits t up (x ∷ more) is r (inr e) = absurd e

listed_fits : (sc : Scenario) (start : List Entry) (group : List ℕ) (r : RecoveryRound) → IsIn r (listed sc start group) → RoundFits r
listed_fits sc start group r k =
    let up : List ℕ = filter (is_up_at start) group in
    let f = in_flat_map (λ t. round_of t (filter (has_site t.sites) up)) r (fold add_txn [] (flat_map (open_at sc start) up)) k in
    round_fits f.0 up (filter (has_site f.0.sites) up) refl r f.2

round_takes : (sc : Scenario) (h : List Entry) (r : RecoveryRound) → due_round sc h ≡ Some r → RoundFits r
round_takes sc h r due = by (recover_group (present_items sc h)) refl
  where
    by : (o : Option (List ℕ)) → recover_group (present_items sc h) ≡ o → RoundFits r
    by None is = absurd (let none : due_round sc h ≡ None = rw is refl in cc)
    by (Some group) is =
        let made : List Txn = flat_map elected_txn (flat_map (λ (e : Entry). inputs_of e.act) (since_line h)) in
        let found : find (λ q. is_up_at h q.elector) (rounds_left made (listed sc (to_line h) group)) ≡ Some r = (let e : due_round sc h ≡ find (λ q. is_up_at h q.elector) (rounds_left made (listed sc (to_line h) group)) = rw is refl in sym e ∙ due) in
        listed_fits sc (to_line h) group r (left_in made (listed sc (to_line h) group) r (find_in (λ q. is_up_at h q.elector) (rounds_left made (listed sc (to_line h) group)) r found))

-- whatever is due fits
due_fits : (sc : Scenario) (h : List Entry) (names : Names sc.steps) (s : ℕ) (i : Input) → Counted sc h → IsDue sc h s i → is_delivery i ≡ false → MayTake s i
due_fits sc h names s (input.Begin sites) c due no_packet = tt
due_fits sc h names s (input.Do u op) c due no_packet = next_takes sc h names s (input.Do u op) c due
due_fits sc h names s (input.Commit u) c due no_packet = next_takes sc h names s (input.Commit u) c due
due_fits sc h names s (input.Cancel u) c due no_packet = next_takes sc h names s (input.Cancel u) c due
due_fits sc h names s (input.Expire u) c due no_packet = next_takes sc h names s (input.Expire u) c due
due_fits sc h names s (input.Elect u group) c due no_packet = by due
  where
    by : IsNextItem sc h s (input.Elect u group) ⊎ IsRound sc h s u group → MayTake s (input.Elect u group)
    by (inl next) = next_takes sc h names s (input.Elect u group) c next
    by (inr round) = round_takes sc h (record { txn = u; members = group; elector = s }) round.due
due_fits sc h names s (input.Deliver packet) c due no_packet = cc

falls_fit : (sc : Scenario) (names : Names sc.steps) (s : ℕ) (inputs : List Input) (h : List Entry) → Counted sc h → is_up_at h s ≡ true → AreDue sc h s inputs
    → (i : Input) → IsIn i inputs → is_delivery i ≡ false → MayTake s i
falls_fit sc names s [] h c up due i k no_packet = absurd k
falls_fit sc names s (x ∷ inputs) h c up due i (inl e) no_packet =
    subst (λ z. MayTake s z) (sym e) (due_fits sc h names s x c due.0 (ap is_delivery (sym e) ∙ no_packet))
falls_fit sc names s (x ∷ inputs) h c up due i (inr k) no_packet =
    falls_fit sc names s inputs (h ++ entry_of sc h s x ∷ [])
    (step_on sc h names s x _ _ _ (record { up = up; due = due.0; made = refl }) c)
    (up_same h (entry_of sc h s x) s (eq-eqb s s refl) ∙ up) due.1 i k no_packet

entry_fits : (sc : Scenario) (h : List Entry) (names : Names sc.steps) (s : ℕ) (act : Act) → Guard sc h (record { owner = s; act = act }) → Counted sc h → ItemsFit (record { owner = s; act = act })
entry_fits sc h names zero (Step i records outs events) guard c = absurd guard
entry_fits sc h names zero (Fall inputs records why) guard c = absurd guard
entry_fits sc h names (suc s) (Step i records outs events) guard c = λ j k no_packet. only (in_from_contains (i ∷ []) j k) no_packet
  where
    only : {j : Input} → IsIn j (i ∷ []) → is_delivery j ≡ false → MayTake (suc s) j
    only (inl e) no_packet = subst (λ z. MayTake (suc s) z) (sym e) (due_fits sc h names (suc s) i c guard.due (ap is_delivery (sym e) ∙ no_packet))
    only (inr e) no_packet = absurd e
entry_fits sc h names (suc s) (Fall inputs records why) guard c = λ j k no_packet. falls_fit sc names (suc s) inputs h c guard.up guard.due j (in_from_contains inputs j k) no_packet
entry_fits sc h names s (Rise kept inc) guard c = λ j k no_packet. absurd (in_from_contains [] j k)
entry_fits sc h names s (RiseFall kept inc why) guard c = λ j k no_packet. absurd (in_from_contains [] j k)
entry_fits sc h names s Miss guard c = λ j k no_packet. absurd (in_from_contains [] j k)
entry_fits sc h names s Cut guard c = λ j k no_packet. absurd (in_from_contains [] j k)
entry_fits sc h names s (Drop n) guard c = λ j k no_packet. absurd (in_from_contains [] j k)
entry_fits sc h names s (Parts parts) guard c = λ j k no_packet. absurd (in_from_contains [] j k)
entry_fits sc h names s (Line n) guard c = λ j k no_packet. absurd (in_from_contains [] j k)

all_fit : (sc : Scenario) (names : Names sc.steps) (before rest : List Entry) → LegalAfter sc before rest → Counted sc before → (e : Entry) → IsIn e rest → ItemsFit e
all_fit sc names before [] legal c e k = absurd k
all_fit sc names before (x ∷ rest) legal c e (inl same) = subst ItemsFit (sym same) (entry_fits sc before names x.owner x.act legal.0 c)
all_fit sc names before (x ∷ rest) legal c e (inr k) = all_fit sc names (before ++ x ∷ []) rest legal.1 (counted_on sc before names x.owner x.act legal.0 c) e k

-- in a scenario that keeps the rules all items of a legal history fit
pub given_fit : (sc : Scenario) (h : List Entry) → IsGiven sc → IsLegal sc h → AllFit h
given_fit sc h given legal e k =
    all_fit sc (names_of_steps sc (record { earlier = []; fresh = []; ops = []; parts = all_sites sc ∷ [] }) sc.steps refl refl given.steps) [] h legal (counted_start sc) e (in_from_contains h e k)
