-- The requests that are granted behind a step are found on the names that it touches.
use Rattle.std.specs.Prelude.{◌≡◌, ◌++◌, ◌∷◌, [], if◌then◌else◌, ◌⊎◌, ℕ, zero, suc, Bool, true, false, List, Option, filter, fold, map, length, take, ◌||◌, Result, Ok, Err, IfOk}
use Rattle.std.specs.List.{list_any, flat_map}
use Rattle.std.specs.Ordering.{match_ordering}
use Rattle.std.specs.declared.cmp.Ordering.{Ordering}
use Rattle.std.specs.declared.cmp.Ordering.TheVariants.{Less, Equal, Greater}
use Rattle.std.proofs.Common.{refl, ap, sym, subst, ◌∙◌, inl, inr}
use Rattle.std.proofs.lemmas.List.{append-nil}
use Rattle.std.proofs.lemmas.List.Folds.{list_any-append}
use Rattle.std.proofs.lemmas.Map.Lookups.{exact_bytes}
use Rattle.e3_types.specs.declared.entries.Told.{Told}
use Rattle.e3_types.specs.declared.list.NoMemory.{NoMemory}
use Rattle.e3_types.specs.declared.locks.Lock.{Lock}
use Rattle.e3_types.specs.declared.messages.Packet.{Packet}
use Rattle.e3_types.specs.declared.records.Record.{Record}
use Rattle.e3_types.specs.Locks.{front}
use Rattle.e3_types.specs.Same.{same_numbers}
use Rattle.e3_types.proofs.SameSites.{same_numbers_eq}
use Rattle.e3_world.specs.declared.lives.Asked.{Asked}
use Rattle.e3_world.specs.declared.lives.At.{At}
use Rattle.e3_world.specs.declared.lives.Life.{Life}
use Rattle.e3_world.specs.declared.lives.Made.{Made}
use Rattle.e3_world.specs.declared.lives.SiteStep.{SiteStep}
use Rattle.e3_world.specs.Lives.{life_by}
use Rattle.e3_world.specs.Logs.{key_of}
use Rattle.e3_world.specs.Making.{add_name, names_of, asked_on, granted_on, grants_after, log_now, steps_now}
use Rattle.e3_world.specs.Operations.{waiting, holders, queue}
use Rattle.e3_world.proofs.Turns.{true_not_false}
use Rattle.e3_readings.proofs.Tests.{none_left, none_right}
use Rattle.e3_places.specs.declared.places.Claims.{Claims}
use Rattle.e3_places.specs.declared.places.Place.{Place}
use Rattle.e3_places.specs.declared.places.Places.{Places}
use Rattle.e3_places.specs.declared.places.Standing.{Standing}
use Rattle.e3_readings.specs.Requests.{lock_for}
use Rattle.e3_places.specs.Standing.{is_on, fresh_of, follow, held_with, waits_with, wanted_with, claims_of, place_by}
use Rattle.e3_places.specs.Touching.{name_of, names_touched}
use Rattle.e3_places.specs.Keeping.{PlacesStand}
use Rattle.e3_places.specs.Granting.{given, given_behind, is_restless, RestlessStand, stirred, restless_by, in_order, granted_by, step_so_far}
use Rattle.e3_places.proofs.Ascending.{Below, Ascending, IsOne, Covered, cmp, below_more, turned, same_given}
use Rattle.e3_places.proofs.Locking.{holders_are, waits_are, wanted_parts}
use Rattle.e3_places.proofs.Putting.{place_step}
use Rattle.e3_places.proofs.Reaching.{name_quiet}

-- names in byte order
add_below : (k new : List ℕ) (ns : List (List ℕ)) → cmp k new ≡ Less → Below k ns → Below k (add_name ns new)
add_below k new [] e b = (e, tt)
add_below k new (n ∷ ns) e b = by (cmp new n) (add_below k new ns e b.1)
  where
    by : (o : Ordering) → Below k (add_name ns new) → Below k (match_ordering o (new ∷ n ∷ ns) (n ∷ ns) (n ∷ add_name ns new))
    by Less ih = (e, b)
    by Equal ih = b
    by Greater ih = (b.0, ih)

add_ascending : (ns : List (List ℕ)) (new : List ℕ) → Ascending ns → Ascending (add_name ns new)
add_ascending [] new a = (tt, tt)
add_ascending (n ∷ ns) new a = by (cmp new n) refl (add_ascending ns new a.1)
  where
    by : (o : Ordering) → cmp new n ≡ o → Ascending (add_name ns new) → Ascending (match_ordering o (new ∷ n ∷ ns) (n ∷ ns) (n ∷ add_name ns new))
    by Less e ih = ((e, below_more new n ns e a.0), a)
    by Equal e ih = a
    by Greater e ih = (add_below n new ns (turned new n e) a.0, ih)

has_add : (m : List ℕ) (ns : List (List ℕ)) (new : List ℕ) → IsOne m ns → IsOne m (add_name ns new)
has_add m [] new o = absurd o
has_add m (n ∷ ns) new o = by (cmp new n) (has_add m ns new) o
  where
    by : (c : Ordering) → (IsOne m ns → IsOne m (add_name ns new)) → IsOne m (n ∷ ns) → IsOne m (match_ordering c (new ∷ n ∷ ns) (n ∷ ns) (n ∷ add_name ns new))
    by Less ih o = inr o
    by Equal ih o = o
    by Greater ih (inl e) = inl e
    by Greater ih (inr o) = inr (ih o)

has_new : (ns : List (List ℕ)) (new : List ℕ) → IsOne new (add_name ns new)
has_new [] new = inl refl
has_new (n ∷ ns) new = by (cmp new n) refl (has_new ns new)
  where
    by : (c : Ordering) → cmp new n ≡ c → IsOne new (add_name ns new) → IsOne new (match_ordering c (new ∷ n ∷ ns) (n ∷ ns) (n ∷ add_name ns new))
    by Less e ih = inl refl
    by Equal e ih = inl (exact_bytes new n e)
    by Greater e ih = inr ih

all_ascending : (xs ns : List (List ℕ)) → Ascending ns → Ascending (fold add_name ns xs)
all_ascending [] ns a = a
all_ascending (x ∷ xs) ns a = all_ascending xs (add_name ns x) (add_ascending ns x a)

all_keep : (m : List ℕ) (xs ns : List (List ℕ)) → IsOne m ns → IsOne m (fold add_name ns xs)
all_keep m [] ns o = o
all_keep m (x ∷ xs) ns o = all_keep m xs (add_name ns x) (has_add m ns x o)

all_have : (m : List ℕ) (xs ns : List (List ℕ)) → list_any (same_numbers m) xs ≡ true → IsOne m (fold add_name ns xs)
all_have m [] ns e = absurd (true_not_false (sym e))
all_have m (x ∷ xs) ns e = by (all_have m xs (add_name ns x)) (same_numbers m x) refl
  where
    by : (list_any (same_numbers m) xs ≡ true → IsOne m (fold add_name (add_name ns x) xs)) → (b : Bool) → same_numbers m x ≡ b → IsOne m (fold add_name (add_name ns x) xs)
    by ih true f = subst (λ (n : List ℕ). IsOne n (fold add_name (add_name ns x) xs)) (sym (same_numbers_eq m x f)) (all_keep x xs (add_name ns x) (has_new ns x))
    by ih false f = ih (sym (ap (λ (b : Bool). b || list_any (same_numbers m) xs) f) ∙ e)

names_sorted : (asked : List Asked) (ns : List (List ℕ)) → fold (λ names a. add_name names (key_of a.op).name) ns asked ≡ fold add_name ns (map name_of asked)
names_sorted [] ns = refl
names_sorted (a ∷ asked) ns = names_sorted asked (add_name ns (name_of a))

covered_all : (g : List ℕ → List Asked) (ns ms : List (List ℕ)) → ((m : List ℕ) → IsOne m ns ⊎ (g m ≡ [])) → Covered g ns ms
covered_all g ns [] h = tt
covered_all g ns (m ∷ ms) h = (h m, covered_all g ns ms h)

-- a name that is not stirred grants nothing
quiet : (site : ℕ) (life : Life) (places : Places) (restless : List (List ℕ)) (new : Option Standing) (rs : List Record) (events : List Told) (outs : List Packet) → PlacesStand site places life
    → RestlessStand site restless life → (name : List ℕ) → list_any (same_numbers name) (stirred places restless new rs events outs) ≡ false
    → given_behind places.names.entries new rs events outs name ≡ []
quiet site life places restless new rs events outs stands rest name e =
    let parts = sym (list_any-append (same_numbers name) (names_touched places.txns.entries new rs events outs) restless) ∙ e in
    ap (λ (p : Place). given name (place_by name p new rs events outs).claims) (stands.names_stand name)
    ∙ ap (λ (p : Place). given name p.claims) (name_quiet name site life places.txns.entries new rs events outs stands.txns_stand (none_left (list_any (same_numbers name) (names_touched places.txns.entries new rs events outs)) _ parts))
    ∙ rest name (none_right (list_any (same_numbers name) (names_touched places.txns.entries new rs events outs)) _ parts)

-- of the names that are left out none is restless
left_out : (p : List ℕ → Bool) (name : List ℕ) (xs : List (List ℕ)) → list_any (same_numbers name) (filter p xs) ≡ false → p name ≡ true → list_any (same_numbers name) xs ≡ false
left_out p name [] e h = refl
left_out p name (x ∷ xs) e h = by (left_out p name xs) (p x) (same_numbers name x) refl refl
  where
    by : (list_any (same_numbers name) (filter p xs) ≡ false → p name ≡ true → list_any (same_numbers name) xs ≡ false) → (b c : Bool) → p x ≡ b → same_numbers name x ≡ c
        → list_any (same_numbers name) (x ∷ xs) ≡ false
    by ih true c f g =
        let here : (same_numbers name x || list_any (same_numbers name) (filter p xs)) ≡ false =
        sym (ap (λ (b : Bool). list_any (same_numbers name) (if b then x ∷ filter p xs else filter p xs)) f) ∙ e in
        ap (λ (b : Bool). b || list_any (same_numbers name) xs) (none_left (same_numbers name x) _ here) ∙ ih (none_right (same_numbers name x) _ here) h
    by ih false true f g = absurd (true_not_false (sym (subst (λ (n : List ℕ). p n ≡ true) (same_numbers_eq name x g) h) ∙ f))
    by ih false false f g =
        ap (λ (b : Bool). b || list_any (same_numbers name) xs) g
        ∙ ih (sym (ap (λ (b : Bool). list_any (same_numbers name) (if b then x ∷ filter p xs else filter p xs)) f) ∙ e) h

calm : (names : List (List ℕ × Place)) (new : Option Standing) (rs : List Record) (events : List Told) (outs : List Packet) (name : List ℕ) → is_restless names new rs events outs name ≡ false
    → given_behind names new rs events outs name ≡ []
calm names new rs events outs name e = by (given_behind names new rs events outs name) refl
  where
    by : (l : List Asked) → given_behind names new rs events outs name ≡ l → given_behind names new rs events outs name ≡ []
    by [] f = f
    by (a ∷ more) f = absurd (true_not_false (sym (rw f refl) ∙ e))

-- The names on which requests can be granted, behind one more step.
pub restless_step : (site : ℕ) (life : Life) (places : Places) (restless : List (List ℕ)) (s : SiteStep) → PlacesStand site places life → RestlessStand site restless life
    → follow life.log s.records ≡ true → RestlessStand site (restless_by places restless (fresh_of site life s) s.records s.told s.outs) (life_by life s)
restless_step site life places restless s stands rest h = λ name e.
    ap (λ (p : Place). given name p.claims)
    (place_step name site life s h ∙ ap (λ (p : Place). place_by name p (fresh_of site life s) s.records s.told s.outs) (sym (stands.names_stand name)))
    ∙ by name e (is_restless places.names.entries (fresh_of site life s) s.records s.told s.outs name) refl
  where
    by : (name : List ℕ) → list_any (same_numbers name) (restless_by places restless (fresh_of site life s) s.records s.told s.outs) ≡ false → (b : Bool)
        → is_restless places.names.entries (fresh_of site life s) s.records s.told s.outs name ≡ b → given_behind places.names.entries (fresh_of site life s) s.records s.told s.outs name ≡ []
    by name e true f =
        quiet site life places restless (fresh_of site life s) s.records s.told s.outs stands rest name
        (left_out (is_restless places.names.entries (fresh_of site life s) s.records s.told s.outs) name (stirred places restless (fresh_of site life s) s.records s.told s.outs) e f)
    by name e false f = calm places.names.entries (fresh_of site life s) s.records s.told s.outs name f

-- what is granted on a name
queue_on : (name : List ℕ) (asked : List Asked) → queue name (asked_on name asked) ≡ map lock_for (asked_on name asked)
queue_on name [] = refl
queue_on name (a ∷ asked) = by (queue_on name asked) (is_on name a) refl
  where
    by : queue name (asked_on name asked) ≡ map lock_for (asked_on name asked) → (b : Bool) → is_on name a ≡ b → queue name (asked_on name (a ∷ asked)) ≡ map lock_for (asked_on name (a ∷ asked))
    by ih true e = rw e (rw e (ap (λ (l : List Lock). lock_for a ∷ l) ih))
    by ih false e = rw e ih

given_is : (site : ℕ) (name : List ℕ) (life : Life)
    → take (length (front (holders site name life.log life.steps) (queue name (asked_on name (waiting site life.log life.steps))))) (asked_on name (waiting site life.log life.steps))
    ≡ given name (claims_of (is_on name) site life)
given_is site name life =
    let log_is : life.log ≡ life.log ++ [] = sym (append-nil life.log) in
    let claims : Claims = claims_of (is_on name) site life in
    let asks : asked_on name (waiting site life.log life.steps) ≡ waits_with [] claims =
    ap (λ (l : List Record). asked_on name (waiting site l life.steps)) log_is ∙ waits_are site name life [] in
    let holds : holders site name life.log life.steps ≡ held_with name [] claims = ap (λ (l : List Record). holders site name l life.steps) log_is ∙ holders_are site name life [] refl in
    let queues : queue name (asked_on name (waiting site life.log life.steps)) ≡ wanted_with [] claims =
    queue_on name (waiting site life.log life.steps) ∙ ap (map lock_for) asks ∙ wanted_parts [] claims.standing in
    ap (λ (l : List Lock). take (length (front l (queue name (asked_on name (waiting site life.log life.steps))))) (asked_on name (waiting site life.log life.steps))) holds
    ∙ ap (λ (l : List Lock). take (length (front (held_with name [] claims) l)) (asked_on name (waiting site life.log life.steps))) queues
    ∙ ap (λ (l : List Asked). take (length (front (held_with name [] claims) (wanted_with [] claims))) l) asks

none_on : (name : List ℕ) (asked : List Asked) → list_any (same_numbers name) (map name_of asked) ≡ false → asked_on name asked ≡ []
none_on name [] e = refl
none_on name (a ∷ asked) e = rw (none_left (is_on name a) (list_any (same_numbers name) (map name_of asked)) e) (none_on name asked (none_right (is_on name a) _ e))

no_asked : List Asked
no_asked = []

pub take_none : (n : ℕ) (xs : List Asked) → xs ≡ [] → take n xs ≡ []
unfolding no_asked
take_none n xs e = ap (take n) e ∙ by n
  where
    by : (n : ℕ) → take n no_asked ≡ no_asked
    by zero = refl
    by (suc n) = refl

flat_alike : {X Y : Type 0} (f g : X → List Y) → ((x : X) → f x ≡ g x) → (xs : List X) → flat_map f xs ≡ flat_map g xs
flat_alike f g h [] = refl
flat_alike f g h (x ∷ xs) = ap (λ (l : List _). l ++ flat_map f xs) (h x) ∙ ap (λ (l : List _). g x ++ l) (flat_alike f g h xs)

-- The requests that a decision grants are those on the names that the step stirs.
pub grants_are : (a : At) (made : Made) (places : Places) (restless : List (List ℕ)) → PlacesStand a.site places a.life → RestlessStand a.site restless a.life → follow a.life.log made.records ≡ true
    → granted_by places restless (fresh_of a.site a.life (step_so_far a made)) made.records made.told made.outs ≡ grants_after a made
grants_are a made places restless stands rest h =
    same_given g (in_order all) (in_order (map name_of asked)) (all_ascending all [] tt) (all_ascending (map name_of asked) [] tt)
    (covered_all g (in_order all) (in_order (map name_of asked)) first) (covered_all g (in_order (map name_of asked)) (in_order all) second)
    ∙ ap (flat_map g) (sym (names_sorted asked []))
    ∙ flat_alike g (granted_on a made asked) (λ name. sym (granted_is name)) (names_of asked)
  where
    s : SiteStep
    s = step_so_far a made

    new : Option Standing
    new = fresh_of a.site a.life s

    g : List ℕ → List Asked
    g = given_behind places.names.entries new made.records made.told made.outs

    all : List (List ℕ)
    all = stirred places restless new made.records made.told made.outs

    asked : List Asked
    asked = waiting a.site (log_now a made) (steps_now a made)

    granted_is : (name : List ℕ) → granted_on a made asked name ≡ g name
    granted_is name =
        given_is a.site name (life_by a.life s)
        ∙ ap (λ (p : Place). given name p.claims)
        (place_step name a.site a.life s h ∙ ap (λ (p : Place). place_by name p new made.records made.told made.outs) (sym (stands.names_stand name)))

    first : (m : List ℕ) → IsOne m (in_order all) ⊎ (g m ≡ [])
    first m = by (list_any (same_numbers m) all) refl
      where
        by : (b : Bool) → list_any (same_numbers m) all ≡ b → IsOne m (in_order all) ⊎ (g m ≡ [])
        by true e = inl (all_have m all [] e)
        by false e = inr (quiet a.site a.life places restless new made.records made.told made.outs stands rest m e)

    second : (m : List ℕ) → IsOne m (in_order (map name_of asked)) ⊎ (g m ≡ [])
    second m = by (list_any (same_numbers m) (map name_of asked)) refl
      where
        by : (b : Bool) → list_any (same_numbers m) (map name_of asked) ≡ b → IsOne m (in_order (map name_of asked)) ⊎ (g m ≡ [])
        by true e = inl (all_have m (map name_of asked) [] e)
        by false e = inr (sym (granted_is m) ∙ ap (λ (l : List Asked). take (length (front (holders a.site m (log_now a made) (steps_now a made)) (queue m l))) l) (none_on m asked e)
            ∙ take_none (length (front (holders a.site m (log_now a made) (steps_now a made)) (queue m []))) [] refl)

pub granted_ok : (a : At) (made : Made) (places : Places) (restless : List (List ℕ)) (new : Option Standing) (rs : List Record) (events : List Told) (outs : List Packet) (r : Result (List Asked) NoMemory)
    → PlacesStand a.site places a.life → RestlessStand a.site restless a.life → new ≡ fresh_of a.site a.life (step_so_far a made) → follow a.life.log made.records ≡ true
    → rs ≡ made.records → events ≡ made.told → outs ≡ made.outs → IfOk r (λ out. out ≡ granted_by places restless new rs events outs) → IfOk r (λ out. out ≡ grants_after a made)
granted_ok a made places restless new rs events outs (Ok out) stands rest n h p q o e =
    e ∙ ap (λ (x : Option Standing). granted_by places restless x rs events outs) n ∙ ap (λ (x : List Record). granted_by places restless (fresh_of a.site a.life (step_so_far a made)) x events outs) p
    ∙ ap (λ (x : List Told). granted_by places restless (fresh_of a.site a.life (step_so_far a made)) made.records x outs) q
    ∙ ap (λ (x : List Packet). granted_by places restless (fresh_of a.site a.life (step_so_far a made)) made.records made.told x) o
    ∙ grants_are a made places restless stands rest h
granted_ok a made places restless new rs events outs (Err f) stands rest n h p q o e = tt

pub restless_ok : (places : Places) (restless : List (List ℕ)) (new : Option Standing) (s : SiteStep) (rs : List Record) (events : List Told) (outs : List Packet) (r : Result (List (List ℕ)) NoMemory)
    → rs ≡ s.records → events ≡ s.told → outs ≡ s.outs → IfOk r (λ out. out ≡ restless_by places restless new rs events outs)
    → IfOk r (λ out. (site : ℕ) (life : Life) → PlacesStand site places life → RestlessStand site restless life → new ≡ fresh_of site life s → follow life.log s.records ≡ true
    → RestlessStand site out (life_by life s))
restless_ok places restless new s rs events outs (Ok out) p q o e = λ site life stands rest n h.
    let is : out ≡ restless_by places restless (fresh_of site life s) s.records s.told s.outs =
    e ∙ ap (λ (x : Option Standing). restless_by places restless x rs events outs) n ∙ ap (λ (x : List Record). restless_by places restless (fresh_of site life s) x events outs) p
    ∙ ap (λ (x : List Told). restless_by places restless (fresh_of site life s) s.records x outs) q
    ∙ ap (λ (x : List Packet). restless_by places restless (fresh_of site life s) s.records s.told x) o in
    subst (λ (l : List (List ℕ)). RestlessStand site l (life_by life s)) (sym is) (restless_step site life places restless s stands rest h)
restless_ok places restless new s rs events outs (Err f) p q o e = tt
