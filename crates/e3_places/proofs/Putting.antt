-- Changes that are put in their places.
use Rattle.std.specs.Prelude.{◌≡◌, ◌||◌, ◌∷◌, [], if◌then◌else◌, cond, ℕ, Bool, true, false, List, map, fold, Option, Some, None, unwrap_or, Result, Ok, Err, OnOk, IsSome, OnErr, is_some, ◌≤◌, ◌-◌, take, drop, length, suc}
use Rattle.std.specs.List.{list_any}
use Rattle.std.specs.Map.{lookup}
use Rattle.std.proofs.Common.{refl, ap, sym, subst, ◌∙◌, arith, get_or}
use Rattle.std.proofs.lemmas.Grind.{common_steps}
use Rattle.e3_types.specs.declared.entries.Told.{Told}
use Rattle.e3_types.specs.declared.list.NoMemory.{NoMemory}
use Rattle.e3_types.specs.declared.messages.Packet.{Packet}
use Rattle.e3_types.specs.declared.records.Record.{Record}
use Rattle.e3_types.specs.Same.{same_numbers}
use Rattle.e3_types.proofs.SameSites.{same_numbers_eq}
use Rattle.e3_world.specs.declared.lives.Life.{Life}
use Rattle.e3_world.specs.declared.lives.SiteStep.{SiteStep}
use Rattle.e3_world.specs.Lives.{life_by}
use Rattle.e3_world.proofs.Turns.{true_not_false}
use Rattle.e3_places.specs.declared.changing.Changes.{Changes}
use Rattle.e3_places.specs.declared.keys.TxnId.{TxnId}
use Rattle.e3_places.specs.declared.places.Claims.{Claims}
use Rattle.e3_places.specs.declared.places.Place.{Place}
use Rattle.e3_places.specs.declared.places.Places.{Places}
use Rattle.e3_places.specs.declared.places.Standing.{Standing}
use Rattle.e3_places.specs.Standing.{is_on, is_of, claims_of, claims_by, place_of, place_by, fresh_of, follow}
use Rattle.e3_places.specs.Touching.{names_touched, keys_touched}
use Rattle.e3_places.specs.Keeping.{is_key, at_name, at_key, value_at, place_at, claims_at, PlacesStand, name_change, txn_change, put_name, put_txn, AreChanges, Has, HasEach, IsRoomier}
use Rattle.e3_places.proofs.Alike.{ties}
use Rattle.e3_places.proofs.Arriving.{standing_step}
use Rattle.e3_places.proofs.Reaching.{name_quiet, key_quiet}
use Rattle.e3_places.proofs.Rowing.{row_more}
use Rattle.e3_places.proofs.Voting.{votes_more}

-- Changes that a function makes of the keys in a list: where a key is not in the list, its value stays.
abbrev PutBy : {K X C : Type 0} → (K → K → Bool) → (C → K) → (C → X) → K → X → C → X
PutBy same key value k was c = if same k (key c) then value c else was

any_same : (b : Bool) → (b || b) ≡ b
any_same true = refl
any_same false = refl

put_each : {K X C : Type 0} (same : K → K → Bool) (key : C → K) (value : C → X) (make : K → C) (now : K → X) → ((k l : K) → same k l ≡ true → k ≡ l)
    → ((k : K) → key (make k) ≡ k) → ((k : K) → value (make k) ≡ now k) → (k : K) (ks : List K) (x : X)
    → fold (PutBy same key value k) x (map make ks) ≡ (if list_any (same k) ks then now k else x)
put_each same key value make now eq e f k [] x = refl
put_each same key value make now eq e f k (l ∷ ls) x = by (put_each same key value make now eq e f k ls) (same k l) refl
  where
    step : (b : Bool) → same k l ≡ b → PutBy same key value k x (make l) ≡ (if b then now k else x)
    step true g = ap (λ (q : _). if same k q then value (make l) else x) (e l) ∙ ap (λ (b : Bool). if b then value (make l) else x) g ∙ f l ∙ ap now (sym (eq k l g))
    step false g = ap (λ (q : _). if same k q then value (make l) else x) (e l) ∙ ap (λ (b : Bool). if b then value (make l) else x) g

    rest : (b : Bool) → (if b then now k else now k) ≡ now k
    rest true = refl
    rest false = refl

    by : ((y : _) → fold (PutBy same key value k) y (map make ls) ≡ (if list_any (same k) ls then now k else y)) → (b : Bool) → same k l ≡ b
        → fold (PutBy same key value k) x (map make (l ∷ ls)) ≡ (if same k l || list_any (same k) ls then now k else x)
    by ih true g =
        ap (λ (y : _). fold (PutBy same key value k) y (map make ls)) (step true g) ∙ ih (now k) ∙ rest (list_any (same k) ls)
        ∙ sym (ap (λ (b : Bool). if b || list_any (same k) ls then now k else x) g)
    by ih false g =
        ap (λ (y : _). fold (PutBy same key value k) y (map make ls)) (step false g) ∙ ih x ∙ sym (ap (λ (b : Bool). if b || list_any (same k) ls then now k else x) g)

key_eq : (k l : TxnId) → is_key k l ≡ true → k ≡ l
key_eq k l e = grind (arith, common_steps, e)

pub key_ties : (k l : TxnId) → at_key k l ≡ is_key k l
key_ties k l = grind (arith, common_steps)

is_or : {X : Type 0} (b : Bool) (x y : X) → (b ≡ false → x ≡ y) → (if b then x else y) ≡ x
is_or true x y h = refl
is_or false x y h = sym (h refl)

-- all that a step touches, and so all
pub names_changed : (site : ℕ) (life : Life) (places : Places) (new : Option Standing) (rs : List Record) (events : List Told) (outs : List Packet) → PlacesStand site places life → (name : List ℕ)
    → fold (put_name name) (place_at places.names.entries name) (map (name_change places.names.entries new rs events outs) (names_touched places.txns.entries new rs events outs))
    ≡ place_by name (place_at places.names.entries name) new rs events outs
names_changed site life places new rs events outs stands name =
    let was : Place = place_at places.names.entries name in
    put_each same_numbers (λ c. c.name) (λ c. c.place) (name_change places.names.entries new rs events outs) (λ n. place_by n (place_at places.names.entries n) new rs events outs) same_numbers_eq
    (λ n. refl) (λ n. refl) name (names_touched places.txns.entries new rs events outs) was
    ∙ is_or (list_any (same_numbers name) (names_touched places.txns.entries new rs events outs)) (place_by name was new rs events outs) was
    (λ e. ap (λ (p : Place). place_by name p new rs events outs) (stands.names_stand name) ∙ name_quiet name site life places.txns.entries new rs events outs stands.txns_stand e
    ∙ sym (stands.names_stand name))

pub txns_changed : (site : ℕ) (life : Life) (places : Places) (new : Option Standing) (rs : List Record) (events : List Told) (outs : List Packet) → PlacesStand site places life → (k : TxnId)
    → fold (put_txn k) (claims_at places.txns.entries k) (map (txn_change places.txns.entries new rs events outs) (keys_touched new rs events outs))
    ≡ claims_by (is_of k) (claims_at places.txns.entries k) new rs events outs
txns_changed site life places new rs events outs stands k =
    let was : Claims = claims_at places.txns.entries k in
    put_each is_key (λ c. c.key) (λ c. c.claims) (txn_change places.txns.entries new rs events outs) (λ l. claims_by (is_of l) (claims_at places.txns.entries l) new rs events outs) key_eq
    (λ l. refl) (λ l. refl) k (keys_touched new rs events outs) was
    ∙ is_or (list_any (is_key k) (keys_touched new rs events outs)) (claims_by (is_of k) was new rs events outs) was
    (λ e. ap (λ (p : Claims). claims_by (is_of k) p new rs events outs) (stands.txns_stand k) ∙ key_quiet k site life new rs events outs e ∙ sym (stands.txns_stand k))

-- so they are the changes of the step
pub are_changes : (places : Places) (new : Option Standing) (rs : List Record) (events : List Told) (outs : List Packet) (changes : Changes)
    → changes.names ≡ map (name_change places.names.entries new rs events outs) (names_touched places.txns.entries new rs events outs)
    → changes.txns ≡ map (txn_change places.txns.entries new rs events outs) (keys_touched new rs events outs)
    → (site : ℕ) (life : Life) → PlacesStand site places life → AreChanges places new rs events outs changes
are_changes places new rs events outs changes a b site life stands = record {
  names = λ name. ap (fold (put_name name) (place_at places.names.entries name)) a ∙ names_changed site life places new rs events outs stands name;
  txns = λ k. ap (fold (put_txn k) (claims_at places.txns.entries k)) b ∙ txns_changed site life places new rs events outs stands k;
}

-- what stands, behind one more step of the life
pub claims_step : (test : _) (site : ℕ) (life : Life) (s : SiteStep) → follow life.log s.records ≡ true
    → claims_of test site (life_by life s) ≡ claims_by test (claims_of test site life) (fresh_of site life s) s.records s.told s.outs
claims_step test site life s h =
    let standing = standing_step test site life s in
    let votes = votes_more test life.log s.records h in
    λ i. record { standing = standing i; votes = votes i }

pub place_step : (name : List ℕ) (site : ℕ) (life : Life) (s : SiteStep) → follow life.log s.records ≡ true
    → place_of name site (life_by life s) ≡ place_by name (place_of name site life) (fresh_of site life s) s.records s.told s.outs
place_step name site life s h =
    let claims = claims_step (is_on name) site life s h in
    let row = row_more name life.log s.records h in
    λ i. record { claims = claims i; row = row i }

-- and the tables stand for the life with the step
pub stands_on : (old now : Places) (changes : Changes) → ((name : List ℕ) → place_at now.names.entries name ≡ fold (put_name name) (place_at old.names.entries name) changes.names)
    → ((k : TxnId) → claims_at now.txns.entries k ≡ fold (put_txn k) (claims_at old.txns.entries k) changes.txns)
    → (site : ℕ) (life : Life) (s : SiteStep) → PlacesStand site old life → AreChanges old (fresh_of site life s) s.records s.told s.outs changes → follow life.log s.records ≡ true
    → PlacesStand site now (life_by life s)
stands_on old now changes names txns site life s stands are h = record {
  names_stand = λ name.
      names name ∙ are.names name ∙ ap (λ (p : Place). place_by name p (fresh_of site life s) s.records s.told s.outs) (stands.names_stand name) ∙ sym (place_step name site life s h);
  txns_stand = λ k.
      txns k ∙ are.txns k ∙ ap (λ (c : Claims). claims_by (is_of k) c (fresh_of site life s) s.records s.told s.outs) (stands.txns_stand k) ∙ sym (claims_step (is_of k) site life s h);
}

-- behind an insert
abbrev pub Inserts : {K X : Type 0} → (K → K → Bool) → List (K × X) → List (K × X) → K → X → Type 0
Inserts at ms ns k x = (q : _) → lookup (at q) ns ≡ cond (at k q) (Some x) (lookup (at q) ms)

keys_stay : {K X : Type 0} (at : K → K → Bool) (ms ns : List (K × X)) (k q : K) (x : X) → Inserts at ms ns k x → Has at ms q → Has at ns q
keys_stay at ms ns k q x h has = subst (λ (o : Option _). IsSome o) (sym (h q)) (by (at k q))
  where
    by : (b : Bool) → IsSome (cond b (Some x) (lookup (at q) ms))
    by true = refl
    by false = has

pub each_stays : {K X : Type 0} (at : K → K → Bool) (ms ns : List (K × X)) → ((q : K) → Has at ms q → Has at ns q) → (ks : List K) → HasEach at ms ks → HasEach at ns ks
each_stays at ms ns h [] room = tt
each_stays at ms ns h (k ∷ ks) room = (h k room.0, each_stays at ms ns h ks room.1)

none_of : {X : Type 0} (o : Option X) → false ≡ is_some o → o ≡ None
none_of None e = refl
none_of (Some x) e = absurd (true_not_false (sym e))

-- an entry that says what none says, at a key without one
pub roomier_by : {K X : Type 0} (at : K → K → Bool) (none : X) (ms ns : List (K × X)) (k : K) (x : X) → ((k q : K) → at k q ≡ true → k ≡ q) → x ≡ none → false ≡ is_some (lookup (at k) ms)
    → Inserts at ms ns k x → IsRoomier at none ms ns
roomier_by at none ms ns k x eq e missing h = record {
  values = λ q. ap (λ (o : Option _). unwrap_or o none) (h q) ∙ by q (at k q) refl;
  keys = λ q has. keys_stay at ms ns k q x h has;
}
  where
    by : (q : _) (b : Bool) → at k q ≡ b → unwrap_or (cond b (Some x) (lookup (at q) ms)) none ≡ value_at at none ms q
    by q true f = e ∙ sym (ap (λ (o : Option _). unwrap_or o none) (ap (λ (p : _). lookup (at p) ms) (sym (eq k q f)) ∙ none_of (lookup (at k) ms) missing))
    by q false f = refl

pub roomier_same : {K X : Type 0} (at : K → K → Bool) (none : X) (ms : List (K × X)) → IsRoomier at none ms ms
roomier_same at none ms = record { values = λ k. refl; keys = λ k has. has }

pub roomier_twice : {K X : Type 0} (at : K → K → Bool) (none : X) (ms ns ps : List (K × X)) → IsRoomier at none ms ns → IsRoomier at none ns ps → IsRoomier at none ms ps
roomier_twice at none ms ns ps a b = record { values = λ k. b.values k ∙ a.values k; keys = λ k has. b.keys k (a.keys k has) }

no_entry : {K X : Type 0} (at : K → K → Bool) (ms : List (K × X)) (k : K) → Has at ms k → lookup (at k) ms ≡ None → ⊥
no_entry at ms k has e = true_not_false (sym (subst (λ (o : Option _). IsSome o) e has))

-- an insert at a key with an entry comes to pass
pub put_result : {K X A E : Type 0} (at same : K → K → Bool) (none : X) (r : Result A E) (ms ns : List (K × X)) (k : K) (x : X) → ((q : K) → at k q ≡ same q k) → Has at ms k
    → OnOk r (Inserts at ms ns k x) → OnErr r (lookup (at k) ms ≡ None)
    → ((q : K) → value_at at none ns q ≡ (if same q k then x else value_at at none ms q)) × ((q : K) → Has at ms q → Has at ns q)
put_result at same none (Ok y) ms ns k x turned has done absent =
    (λ q. ap (λ (o : Option _). unwrap_or o none) (done q) ∙ ap (λ (b : Bool). unwrap_or (cond b (Some x) (lookup (at q) ms)) none) (turned q) ∙ by q (same q k), λ q. keys_stay at ms ns k q x done)
  where
    by : (q : _) (b : Bool) → unwrap_or (cond b (Some x) (lookup (at q) ms)) none ≡ (if b then x else value_at at none ms q)
    by q true = refl
    by q false = refl
put_result at same none (Err y) ms ns k x turned has done missing = absurd (no_entry at ms k has missing)

same_turned : (xs ys : List ℕ) → same_numbers xs ys ≡ same_numbers ys xs
same_turned [] [] = refl
same_turned (x ∷ xs) (y ∷ ys) = let ih = same_turned xs ys in grind (arith, common_steps, ih)
same_turned [] (y ∷ ys) = refl
same_turned (x ∷ xs) [] = refl

pub names_eq : (k q : List ℕ) → at_name k q ≡ true → k ≡ q
names_eq k q e = same_numbers_eq k q (sym (ties k q) ∙ e)

pub names_turned : (k q : List ℕ) → at_name k q ≡ same_numbers q k
names_turned k q = ties k q ∙ same_turned k q

pub keys_eq : (k q : TxnId) → at_key k q ≡ true → k ≡ q
keys_eq k q e = key_eq k q (sym (key_ties k q) ∙ e)

pub keys_turned : (k q : TxnId) → at_key k q ≡ is_key q k
keys_turned k q = key_ties k q ∙ grind (arith, common_steps)

take_whole : {X : Type 0} (cs : List X) → take (length cs) cs ≡ cs
take_whole [] = refl
take_whole (c ∷ cs) = ap (λ (l : List _). c ∷ l) (take_whole cs)

pub slice_parts : {X : Type 0} (cs : List X) (c : X) → 1 ≤ length cs → c ≡ get_or cs 0 c → cs ≡ c ∷ take (length cs - 1) (drop 1 cs)
slice_parts [] c small e = absurd (omega arith)
slice_parts (x ∷ xs) c small e =
    let n : length xs ≡ suc (length xs) - 1 = omega arith in
    let first : x ≡ c = sym e in
    ap (λ (y : _). y ∷ xs) first ∙ ap (λ (l : List _). c ∷ l) (sym (take_whole xs)) ∙ ap (λ (k : ℕ). c ∷ take k xs) n

pub each_front : {K X C : Type 0} (at : K → K → Bool) (key : C → K) (ms : List (K × X)) (all cs : List C) (c : C) → all ≡ c ∷ cs → HasEach at ms (map key all) → Has at ms (key c) × HasEach at ms (map key cs)
each_front at key ms all cs c e room = subst (λ (l : List _). HasEach at ms (map key l)) e room

pub each_both : {K X C : Type 0} (at : K → K → Bool) (key : C → K) (r : Result Unit NoMemory) (ns ps : List (K × X)) (all cs : List C) (c : C) → all ≡ c ∷ cs → HasEach at ns (map key cs)
    → ((q : K) → Has at ns q → Has at ps q) → OnOk r (Has at ps (key c)) → OnOk r (HasEach at ps (map key all))
each_both at key (Ok x) ns ps all cs c e room keys has = subst (λ (l : List _). HasEach at ps (map key l)) (sym e) (has, each_stays at ns ps keys (map key cs) room)
each_both at key (Err x) ns ps all cs c e room keys has = tt
