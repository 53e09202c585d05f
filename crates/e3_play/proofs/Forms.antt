-- The steps of a scenario that keeps the rules.
use Rattle.std.proofs.Common.{◌≡◌, ◌≢◌, ◌==◌, ◌&&◌, ◌||◌, ◌∷◌, [], ◌≤◌, inl, inr, ℕ, zero, suc, Bool, true, false, List, length, fold, refl, sym, subst, ap, ◌∙◌, arith, eqb-true}
use Rattle.std.specs.Prelude.{nat_le, slice_get}
use Rattle.std.specs.List.{list_all}
use Rattle.std.proofs.lemmas.Bool.{and_parts, leb-true}
use Rattle.std.proofs.lemmas.List.Folds.{list_any-append}
use Rattle.e3_types.specs.declared.scenarios.Item.{Item}
use Rattle.e3_types.specs.declared.scenarios.Item.TheVariants as item
use Rattle.e3_types.specs.declared.scenarios.Scenario.{Scenario}
use Rattle.e3_types.specs.Sets.{has_site}
use Rattle.e3_world.specs.Given.{IsGiven, ItemsSoFar, close_step, exist, is_groupable, is_step_form, items_keep, keeps_rules, with_item, steps_keep}
use Rattle.e3_world.specs.Packets.{all_sites, items_or, sites_to, step_items}
use Rattle.e3_play.specs.Kinds.{kind_by, kind_of}
use Rattle.e3_play.specs.Played.{IsStep, StandsAlone}
use Rattle.e3_play.specs.Settled.{is_asking}
use Rattle.e3_play.specs.declared.kinds.Kind.TheVariants as kind
use Rattle.e3_types.specs.declared.scenarios.Leave.{Leave}

-- a site that is the last of them, or among those before
last_site : (n s : ℕ) (b : Bool) → (suc n == s) ≡ b → (b || false) ≡ true → (1 ≤ s) × (s ≤ suc n)
last_site n s true is found = let same : suc n ≡ s = eqb-true (suc n) s is in (omega (arith, same), omega (arith, same))
last_site n s false is found = absurd cc

either_site : (n s : ℕ) (b : Bool) → has_site (sites_to n) s ≡ b → (b || ((suc n == s) || false)) ≡ true → (b ≡ true → (1 ≤ s) × (s ≤ n)) → (1 ≤ s) × (s ≤ suc n)
either_site n s true is found rest = let low : (1 ≤ s) × (s ≤ n) = rest refl in let a = low.0 in let c = low.1 in (a, omega (arith, c))
either_site n s false is found rest = last_site n s (suc n == s) refl found

-- a site among those to a number
site_among : (n s : ℕ) → has_site (sites_to n) s ≡ true → (1 ≤ s) × (s ≤ n)
site_among zero s has = absurd cc
site_among (suc n) s has =
    either_site n s (has_site (sites_to n) s) refl (sym (list_any-append (λ x. x == s) (sites_to n) (suc n ∷ [])) ∙ has) (site_among n s)

exists : (sc : Scenario) (s : ℕ) → exist sc (s ∷ []) ≡ true → (1 ≤ s) × (s ≤ length sc.weights)
exists sc s is = site_among (length sc.weights) s (and_parts (has_site (all_sites sc) s) true is).0

-- a step of one item
alone : (sc : Scenario) (k : ItemsSoFar) (it : Item) → keeps_rules sc k it ≡ true → IsStep sc (it ∷ [])
alone sc k (item.Begin name site sites) keeps = inl refl
alone sc k (item.Read name key) keeps = inl refl
alone sc k (item.Write name key val) keeps = inl refl
alone sc k (item.Commit name) keeps = inl refl
alone sc k (item.Cancel name) keeps = inl refl
alone sc k (item.Expire site name) keeps = inl refl
alone sc k (item.Elect site name sites) keeps = inl refl
alone sc k (item.Recover sites) keeps = inr tt
alone sc k (item.Split parts) keeps = inl refl
alone sc k item.Merge keeps = inl refl
alone sc k (item.Crash site) keeps = inr tt
alone sc k (item.Restart site) keeps = inr (exists sc site keeps)
alone sc k (item.Stop site count leave) keeps =
    let parts : (exist sc (site ∷ []) ≡ true) × (nat_le 1 count ≡ true) = and_parts (exist sc (site ∷ [])) (nat_le 1 count) keeps in
    inr (leb-true 1 count parts.1, (exists sc site parts.0).0, (exists sc site parts.0).1)

-- a group is a step that asks
group_asks : (items : List Item) → list_all is_groupable items ≡ true → is_asking items ≡ true
group_asks [] all = refl
group_asks (item.Split parts ∷ items) all = absurd cc
group_asks (item.Merge ∷ items) all = absurd cc
group_asks (item.Begin name site sites ∷ items) all = all
group_asks (item.Read name key ∷ items) all = all
group_asks (item.Write name key val ∷ items) all = all
group_asks (item.Commit name ∷ items) all = all
group_asks (item.Cancel name ∷ items) all = all
group_asks (item.Expire site name ∷ items) all = all
group_asks (item.Elect site name sites ∷ items) all = all
group_asks (item.Recover sites ∷ items) all = absurd cc
group_asks (item.Crash site ∷ items) all = absurd cc
group_asks (item.Restart site ∷ items) all = absurd cc
group_asks (item.Stop site count leave ∷ items) all = absurd cc

form_of : (sc : Scenario) (k : ItemsSoFar) (items : List Item) → is_step_form items ≡ true → items_keep sc k items ≡ true → IsStep sc items
form_of sc k [] form keep = absurd cc
form_of sc k (it ∷ []) form keep = alone sc k it (and_parts (keeps_rules sc k it) true keep).0
form_of sc k (it ∷ next ∷ items) form keep =
    inl (group_asks (it ∷ next ∷ items) (and_parts (list_all is_groupable (it ∷ next ∷ items)) (nat_le (length items) 14) form).0)

-- what a step keeps
parts_of_step : (sc : Scenario) (k : ItemsSoFar) (items : List Item) (steps : List (List Item)) → steps_keep sc k (items ∷ steps) ≡ true →
    (is_step_form items ≡ true) × (items_keep sc k items ≡ true) × (steps_keep sc (close_step (fold (with_item sc) k items)) steps ≡ true)
parts_of_step sc k items steps keep =
    let outer : _ = and_parts (is_step_form items && items_keep sc k items) (steps_keep sc (close_step (fold (with_item sc) k items)) steps) keep in
    let inner : _ = and_parts (is_step_form items) (items_keep sc k items) outer.0 in
    (inner.0, inner.1, outer.1)

step_at : (sc : Scenario) (k : ItemsSoFar) (steps : List (List Item)) (n : ℕ) → steps_keep sc k steps ≡ true → IsStep sc (items_or (slice_get steps n))
step_at sc k [] n keep = inl refl
step_at sc k (items ∷ steps) zero keep = let parts : _ = parts_of_step sc k items steps keep in form_of sc k items parts.0 parts.1
step_at sc k (items ∷ steps) (suc n) keep = let parts : _ = parts_of_step sc k items steps keep in step_at sc _ steps n parts.2

-- each step of a given scenario is one that the driver plays
pub step_is_given : (sc : Scenario) (k : ℕ) → IsGiven sc → IsStep sc (step_items sc (suc k))
step_is_given sc k given = step_at sc _ sc.steps k given.steps

-- the item of a step of this kind
crash_item : (s : ℕ) (it : Item) → kind_by it ≡ kind.Crash s → it ≡ item.Crash s
crash_item s (item.Begin name site sites) is = absurd cc
crash_item s (item.Read name key) is = absurd cc
crash_item s (item.Write name key val) is = absurd cc
crash_item s (item.Commit name) is = absurd cc
crash_item s (item.Cancel name) is = absurd cc
crash_item s (item.Expire site name) is = absurd cc
crash_item s (item.Elect site name sites) is = absurd cc
crash_item s (item.Recover sites) is = absurd cc
crash_item s (item.Split parts) is = absurd cc
crash_item s item.Merge is = absurd cc
crash_item s (item.Crash site) is = (let same : site ≡ s = cc in ap item.Crash same)
crash_item s (item.Restart site) is = absurd cc
crash_item s (item.Stop site count leave) is = absurd cc

restart_item : (s : ℕ) (it : Item) → kind_by it ≡ kind.Restart s → it ≡ item.Restart s
restart_item s (item.Begin name site sites) is = absurd cc
restart_item s (item.Read name key) is = absurd cc
restart_item s (item.Write name key val) is = absurd cc
restart_item s (item.Commit name) is = absurd cc
restart_item s (item.Cancel name) is = absurd cc
restart_item s (item.Expire site name) is = absurd cc
restart_item s (item.Elect site name sites) is = absurd cc
restart_item s (item.Recover sites) is = absurd cc
restart_item s (item.Split parts) is = absurd cc
restart_item s item.Merge is = absurd cc
restart_item s (item.Crash site) is = absurd cc
restart_item s (item.Restart site) is = (let same : site ≡ s = cc in ap item.Restart same)
restart_item s (item.Stop site count leave) is = absurd cc

recovery_item : (g : List ℕ) (it : Item) → kind_by it ≡ kind.Recovery g → it ≡ item.Recover g
recovery_item g (item.Begin name site sites) is = absurd cc
recovery_item g (item.Read name key) is = absurd cc
recovery_item g (item.Write name key val) is = absurd cc
recovery_item g (item.Commit name) is = absurd cc
recovery_item g (item.Cancel name) is = absurd cc
recovery_item g (item.Expire site name) is = absurd cc
recovery_item g (item.Elect site name sites) is = absurd cc
recovery_item g (item.Recover sites) is = (let same : sites ≡ g = cc in ap item.Recover same)
recovery_item g (item.Split parts) is = absurd cc
recovery_item g item.Merge is = absurd cc
recovery_item g (item.Crash site) is = absurd cc
recovery_item g (item.Restart site) is = absurd cc
recovery_item g (item.Stop site count leave) is = absurd cc

stop_item : (s n : ℕ) (l : Leave) (it : Item) → kind_by it ≡ kind.Stop s n l → it ≡ item.Stop s n l
stop_item s n l (item.Begin name site sites) is = absurd cc
stop_item s n l (item.Read name key) is = absurd cc
stop_item s n l (item.Write name key val) is = absurd cc
stop_item s n l (item.Commit name) is = absurd cc
stop_item s n l (item.Cancel name) is = absurd cc
stop_item s n l (item.Expire site name) is = absurd cc
stop_item s n l (item.Elect site name sites) is = absurd cc
stop_item s n l (item.Recover sites) is = absurd cc
stop_item s n l (item.Split parts) is = absurd cc
stop_item s n l item.Merge is = absurd cc
stop_item s n l (item.Crash site) is = absurd cc
stop_item s n l (item.Restart site) is = absurd cc
stop_item s n l (item.Stop site count leave) is = cc

only_is : (items : List Item) (P : Item → Type 0) → ((it : Item) → kind_by it ≡ kind_of items → P it) → kind_of items ≢ kind.Exchange → (it : Item) × (items ≡ it ∷ []) × P it
only_is [] P to some = absurd (some refl)
only_is (it ∷ []) P to some = (it, refl, to it refl)
only_is (it ∷ x ∷ items) P to some = absurd (some refl)

-- a step of this kind has just that item
pub crash_is : (items : List Item) (s : ℕ) → kind_of items ≡ kind.Crash s → items ≡ item.Crash s ∷ []
crash_is items s is =
    let one : (it : Item) × (items ≡ it ∷ []) × (it ≡ item.Crash s) = only_is items (λ it. it ≡ item.Crash s) (λ it e. crash_item s it (e ∙ is)) (λ none. (let both : kind.Crash s ≡ kind.Exchange = sym is ∙ none in absurd cc)) in
    one.1 ∙ ap (λ it. it ∷ []) one.2

pub restart_is : (items : List Item) (s : ℕ) → kind_of items ≡ kind.Restart s → items ≡ item.Restart s ∷ []
restart_is items s is =
    let one : (it : Item) × (items ≡ it ∷ []) × (it ≡ item.Restart s) = only_is items (λ it. it ≡ item.Restart s) (λ it e. restart_item s it (e ∙ is)) (λ none. (let both : kind.Restart s ≡ kind.Exchange = sym is ∙ none in absurd cc)) in
    one.1 ∙ ap (λ it. it ∷ []) one.2

pub recovery_is : (items : List Item) (g : List ℕ) → kind_of items ≡ kind.Recovery g → items ≡ item.Recover g ∷ []
recovery_is items g is =
    let one : (it : Item) × (items ≡ it ∷ []) × (it ≡ item.Recover g) = only_is items (λ it. it ≡ item.Recover g) (λ it e. recovery_item g it (e ∙ is)) (λ none. (let both : kind.Recovery g ≡ kind.Exchange = sym is ∙ none in absurd cc)) in
    one.1 ∙ ap (λ it. it ∷ []) one.2

pub stop_is : (items : List Item) (s n : ℕ) (l : Leave) → kind_of items ≡ kind.Stop s n l → items ≡ item.Stop s n l ∷ []
stop_is items s n l is =
    let one : (it : Item) × (items ≡ it ∷ []) × (it ≡ item.Stop s n l) = only_is items (λ it. it ≡ item.Stop s n l) (λ it e. stop_item s n l it (e ∙ is)) (λ none. (let both : kind.Stop s n l ≡ kind.Exchange = sym is ∙ none in absurd cc)) in
    one.1 ∙ ap (λ it. it ∷ []) one.2

-- what stands alone is no exchange
apart : (sc : Scenario) (it : Item) → StandsAlone sc (it ∷ []) → kind_by it ≡ kind.Exchange → ⊥
apart sc (item.Begin name site sites) alone is = alone
apart sc (item.Read name key) alone is = alone
apart sc (item.Write name key val) alone is = alone
apart sc (item.Commit name) alone is = alone
apart sc (item.Cancel name) alone is = alone
apart sc (item.Expire site name) alone is = alone
apart sc (item.Elect site name sites) alone is = alone
apart sc (item.Recover sites) alone is = cc
apart sc (item.Split parts) alone is = alone
apart sc item.Merge alone is = alone
apart sc (item.Crash site) alone is = cc
apart sc (item.Restart site) alone is = cc
apart sc (item.Stop site count leave) alone is = cc

-- nothing of two items stands alone
two : (sc : Scenario) (it x : Item) (items : List Item) → StandsAlone sc (it ∷ x ∷ items) → ⊥
two sc (item.Begin name site sites) x items alone = alone
two sc (item.Read name key) x items alone = alone
two sc (item.Write name key val) x items alone = alone
two sc (item.Commit name) x items alone = alone
two sc (item.Cancel name) x items alone = alone
two sc (item.Expire site name) x items alone = alone
two sc (item.Elect site name sites) x items alone = alone
two sc (item.Recover sites) x items alone = alone
two sc (item.Split parts) x items alone = alone
two sc item.Merge x items alone = alone
two sc (item.Crash site) x items alone = alone
two sc (item.Restart site) x items alone = alone
two sc (item.Stop site count leave) x items alone = alone

exchange_by : (sc : Scenario) (items : List Item) → IsStep sc items → kind_of items ≡ kind.Exchange → is_asking items ≡ true
exchange_by sc items (inl asks) is = asks
exchange_by sc [] (inr alone) is = refl
exchange_by sc (it ∷ []) (inr alone) is = absurd (apart sc it alone is)
exchange_by sc (it ∷ x ∷ items) (inr alone) is = absurd (two sc it x items alone)

pub exchange_asks : (sc : Scenario) (items : List Item) → IsStep sc items → kind_of items ≡ kind.Exchange → is_asking items ≡ true
exchange_asks sc items step is = exchange_by sc items step is

-- a stop asks nothing of the network
stop_asks : (s n : ℕ) (l : Leave) (more : List Item) → is_asking (item.Stop s n l ∷ more) ≡ true → ⊥
stop_asks s n l more asks = cc

-- an exchange is no stop
pub no_stop : (items : List Item) → kind_of items ≡ kind.Exchange → (sc : Scenario) → IsStep sc items →
    (s n : ℕ) (l : Leave) (more : List Item) → items ≡ item.Stop s n l ∷ more → ⊥
no_stop items is sc step s n l more found =
    let P : List Item → Type 0 = λ i. is_asking i ≡ true in
    stop_asks s n l more (subst P found (exchange_asks sc items step is))

-- what is known of a stop, and of a restart
pub alone_is : (sc : Scenario) (items : List Item) (s n : ℕ) (l : Leave) → items ≡ item.Stop s n l ∷ [] → IsStep sc items → (1 ≤ n) × (1 ≤ s) × (s ≤ length sc.weights)
alone_is sc items s n l is step = by (let P : List Item → Type 0 = λ i. IsStep sc i in subst P is step)
  where
    by : IsStep sc (item.Stop s n l ∷ []) → (1 ≤ n) × (1 ≤ s) × (s ≤ length sc.weights)
    by (inl asks) = absurd (stop_asks s n l [] asks)
    by (inr alone) = alone

pub restart_exists : (sc : Scenario) (items : List Item) (s : ℕ) → items ≡ item.Restart s ∷ [] → IsStep sc items → (1 ≤ s) × (s ≤ length sc.weights)
restart_exists sc items s is step = by (let P : List Item → Type 0 = λ i. IsStep sc i in subst P is step)
  where
    by : IsStep sc (item.Restart s ∷ []) → (1 ≤ s) × (s ≤ length sc.weights)
    by (inl asks) = absurd cc
    by (inr alone) = alone
