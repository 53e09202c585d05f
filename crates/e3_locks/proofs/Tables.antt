-- A table with one place for each name, seen as the locks of each name.
use Rattle.std.specs.Prelude.{◌≡◌, ◌≤◌, ◌<◌, ◌^◌, ◌++◌, ◌∷◌, [], if◌then◌else◌, Bool, true, false, ℕ, List, length, map, take, drop, fold, zero, suc, slice_set}
use Rattle.std.specs.List.{flat_map, list_any}
use Rattle.std.proofs.Common.{refl, ap, sym, ◌∙◌, subst, arith, append_assoc, get_or}
use Rattle.std.proofs.lemmas.Grind.{common_steps}
use Rattle.std.proofs.lemmas.List.{append-nil}
use Rattle.std.proofs.lemmas.List.Sums.{fold-append}
use Rattle.std.proofs.lemmas.List.Concat.{flat_map-append}
use Rattle.std.proofs.lemmas.Cmp.{tied_itself}
use Rattle.std.specs.Cmp.Lexicographic.{nat_list_cmp_total}
use Rattle.e3_types.specs.declared.locks.Grant.{Grant}
use Rattle.e3_types.specs.declared.locks.Grant.TheVariants.{Held}
use Rattle.e3_types.specs.declared.locks.Lock.{Lock}
use Rattle.e3_types.specs.declared.transactions.Txn.{Txn}
use Rattle.e3_types.specs.Locks.{front, opposes}
use Rattle.e3_types.specs.Same.{same_numbers, same_txn}
use Rattle.e3_types.proofs.SameSites.{same_numbers_refl, same_numbers_eq}
use Rattle.e3_world.specs.Making.{add_name}
use Rattle.e3_types.specs.Sorted.{IsUnder, AreUnder, AreOver, IsAscending}
use Rattle.e3_types.proofs.Ascending.{turned_back, never_under, ascending_set, ascending_insert}
use Rattle.e3_locks.specs.declared.granted.Granted.{Granted}
use Rattle.e3_locks.specs.LockLists.{on, place, named, names_of}
use Rattle.e3_locks.specs.Places.{Place, others_of, released, requested}
use Rattle.e3_locks.specs.Replays.{Places, with_request}
use Rattle.e3_locks.specs.Waiting.{is_fair}
use Rattle.e3_locks.specs.Standing.{IsTable, Standing, all_held, all_queued, place_in, count_at, Each, released_at}
use Rattle.e3_locks.proofs.Claims.{on_append}
use Rattle.e3_locks.proofs.Fairness.{fair_released}
use Rattle.e3_locks.proofs.Requests.{same_turned}

abbrev name_of : Standing → List ℕ
name_of s = s.name

-- two names of which one comes before the other are not one
apart : (n m : List ℕ) → IsUnder n m → same_numbers n m ≡ false
apart n m u = by (same_numbers n m) refl
  where
    by : (b : Bool) → same_numbers n m ≡ b → same_numbers n m ≡ false
    by false e = e
    by true e = let P : List ℕ → Type 0 = λ x. IsUnder n x in absurd (never_under n (subst P (sym (same_numbers_eq n m e)) u))

apart_back : (n m : List ℕ) → IsUnder m n → same_numbers n m ≡ false
apart_back n m u = by (same_numbers n m) refl
  where
    by : (b : Bool) → same_numbers n m ≡ b → same_numbers n m ≡ false
    by false e = e
    by true e = let P : List ℕ → Type 0 = λ x. IsUnder m x in absurd (never_under m (subst P (same_numbers_eq n m e) u))

-- the locks on a name among those of one name
on_named : (n m : List ℕ) (ls : List Lock) → on n (map (named m) ls) ≡ (if same_numbers n m then ls else [])
on_named n m ls = by (same_numbers n m) refl
  where
    all : (b : Bool) → same_numbers n m ≡ b → (xs : List Lock) → on n (map (named m) xs) ≡ (if b then xs else [])
    all true e [] = refl
    all false e [] = refl
    all true e (x ∷ xs) = let ih = all true e xs in rw (e, ih) refl
    all false e (x ∷ xs) = let ih = all false e xs in rw (e, ih) refl

    by : (b : Bool) → same_numbers n m ≡ b → on n (map (named m) ls) ≡ (if same_numbers n m then ls else [])
    by true e = all true e ls ∙ sym (ap (λ (b : Bool). if b then ls else []) e)
    by false e = all false e ls ∙ sym (ap (λ (b : Bool). if b then ls else []) e)

module _ (which : Place → List Lock) where
  abbrev flat : List Standing → List Granted
  flat items = flat_map (λ s. map (named s.name) (which s.place)) items

  on_over : (n : List ℕ) (items : List Standing) → AreOver name_of n items → on n (flat items) ≡ []
  on_over n [] o = refl
  on_over n (s ∷ items) o =
      on_append n (map (named s.name) (which s.place)) (flat items)
      ∙ ap (λ (l : List Lock). l ++ on n (flat items)) (on_named n s.name (which s.place) ∙ ap (λ (b : Bool). if b then which s.place else []) (apart n s.name o.0))
      ∙ on_over n items o.1

  on_flat : which (record { held = []; queue = [] }) ≡ [] → (n : List ℕ) (items : List Standing) → IsAscending name_of items → on n (flat items) ≡ which (place_in n items)
  on_flat none n [] a = sym none
  on_flat none n (s ∷ items) a =
      on_append n (map (named s.name) (which s.place)) (flat items)
      ∙ ap (λ (l : List Lock). l ++ on n (flat items)) (on_named n s.name (which s.place))
      ∙ by (same_numbers n s.name) refl (on_flat none n items a.1)
    where
      by : (b : Bool) → same_numbers n s.name ≡ b → on n (flat items) ≡ which (place_in n items)
          → (if same_numbers n s.name then which s.place else []) ++ on n (flat items) ≡ which (place_in n (s ∷ items))
      by false e ih = rw e ih
      by true e ih =
          let P : List ℕ → Type 0 = λ m. AreOver name_of m items in
          let gone : on n (flat items) ≡ [] = on_over n items (subst P (sym (same_numbers_eq n s.name e)) a.0) in
          rw (e, gone) (append-nil (which s.place))

-- the locks of a name are those of its place
pub place_is : (n : List ℕ) (items : List Standing) (room : ℕ) → IsAscending name_of items
    → place n (record { held = all_held items; queue = all_queued items; room = room }) ≡ place_in n items
place_is n items room a =
    let h : on n (all_held items) ≡ (place_in n items).held = on_flat (λ p. p.held) refl n items a in
    let q : on n (all_queued items) ≡ (place_in n items).queue = on_flat (λ p. p.queue) refl n items a in
    λ i. record { held = h i; queue = q i }

-- the place of a name that stands there
pub in_found : (before behind : List Standing) (here : Standing) (n : List ℕ) → AreUnder name_of n before → here.name ≡ n → place_in n (before ++ here ∷ behind) ≡ here.place
in_found [] behind here n u e =
    let same : same_numbers n here.name ≡ true = ap (λ (m : List ℕ). same_numbers n m) e ∙ same_numbers_refl n in rw same refl
in_found (s ∷ before) behind here n u e = let other : same_numbers n s.name ≡ false = apart_back n s.name u.0 in rw other (in_found before behind here n u.1 e)

pub in_gap : (before behind : List Standing) (n : List ℕ) → AreUnder name_of n before → AreOver name_of n behind → place_in n (before ++ behind) ≡ record { held = []; queue = [] }
in_gap [] [] n u o = refl
in_gap [] (s ∷ behind) n u o = let other : same_numbers n s.name ≡ false = apart n s.name o.0 in rw other (in_gap [] behind n tt o.1)
in_gap (s ∷ before) behind n u o = let other : same_numbers n s.name ≡ false = apart_back n s.name u.0 in rw other (in_gap before behind n u.1 o)

-- another place for one name, or one more: every other name keeps its own
pub in_set : (before behind : List Standing) (x y : Standing) (n m : List ℕ) → x.name ≡ n → y.name ≡ n → same_numbers n m ≡ false → place_in m (before ++ y ∷ behind) ≡ place_in m (before ++ x ∷ behind)
in_set [] behind x y n m e f q =
    let back : same_numbers m n ≡ false = same_turned m n ∙ q in
    let ox : same_numbers m x.name ≡ false = ap (λ (j : List ℕ). same_numbers m j) e ∙ back in
    let oy : same_numbers m y.name ≡ false = ap (λ (j : List ℕ). same_numbers m j) f ∙ back in
    rw (ox, oy) refl
in_set (s ∷ before) behind x y n m e f q = ap (λ (p : Place). if same_numbers m s.name then s.place else p) (in_set before behind x y n m e f q)

in_insert : (before behind : List Standing) (y : Standing) (m : List ℕ) → same_numbers m y.name ≡ false → place_in m (before ++ y ∷ behind) ≡ place_in m (before ++ behind)
in_insert [] behind y m q = rw q refl
in_insert (s ∷ before) behind y m q = ap (λ (p : Place). if same_numbers m s.name then s.place else p) (in_insert before behind y m q)

-- a request on a name that has its place
pub request_found : (before behind : List Standing) (here : Standing) (w : Lock) (g : Grant) (n : List ℕ) → AreUnder name_of n before → here.name ≡ n → (m : List ℕ)
    → place_in m (before ++ record { name = here.name; place = requested w g here.place } ∷ behind)
    ≡ with_request n w g (λ k. place_in k (before ++ here ∷ behind)) m
request_found before behind here w g n u e m = by (same_numbers n m) refl
  where
    after : Standing
    after = record { name = here.name; place = requested w g here.place }

    own : place_in n (before ++ after ∷ behind) ≡ with_request n w g (λ k. place_in k (before ++ here ∷ behind)) n
    own = rw (same_numbers_refl n) (in_found before behind after n u e ∙ ap (requested w g) (sym (in_found before behind here n u e)))

    by : (b : Bool) → same_numbers n m ≡ b
        → place_in m (before ++ after ∷ behind) ≡ with_request n w g (λ k. place_in k (before ++ here ∷ behind)) m
    by true q =
        let P : List ℕ → Type 0 = λ j. place_in j (before ++ after ∷ behind) ≡ with_request n w g (λ k. place_in k (before ++ here ∷ behind)) j in
        subst P (same_numbers_eq n m q) own
    by false q = rw q (in_set before behind here after n m e e q)

-- a request on a name that has none yet
pub request_gap : (before behind : List Standing) (w : Lock) (n : List ℕ) → AreUnder name_of n before → AreOver name_of n behind → (m : List ℕ)
    → place_in m (before ++ record { name = n; place = record { held = w ∷ []; queue = [] } } ∷ behind)
    ≡ with_request n w Held (λ k. place_in k (before ++ behind)) m
request_gap before behind w n u o m = by (same_numbers n m) refl
  where
    after : Standing
    after = record { name = n; place = record { held = w ∷ []; queue = [] } }

    own : place_in n (before ++ after ∷ behind) ≡ with_request n w Held (λ k. place_in k (before ++ behind)) n
    own = rw (same_numbers_refl n) (in_found before behind after n u refl ∙ ap (requested w Held) (sym (in_gap before behind n u o)))

    by : (b : Bool) → same_numbers n m ≡ b
        → place_in m (before ++ after ∷ behind) ≡ with_request n w Held (λ k. place_in k (before ++ behind)) m
    by true q =
        let P : List ℕ → Type 0 = λ j. place_in j (before ++ after ∷ behind) ≡ with_request n w Held (λ k. place_in k (before ++ behind)) j in
        subst P (same_numbers_eq n m q) own
    by false q = rw q (in_insert before behind after m (same_turned m n ∙ q))

-- the places of the table are those of its lists, also behind a request
pub request_in : (old new : List Standing) (n : List ℕ) (w : Lock) (g : Grant) (room space : ℕ) → IsAscending name_of old → IsAscending name_of new
    → ((m : List ℕ) → place_in m new ≡ with_request n w g (λ k. place_in k old) m) → (m : List ℕ)
    → place m (record { held = all_held new; queue = all_queued new; room = space })
    ≡ with_request n w g (λ k. place k (record { held = all_held old; queue = all_queued old; room = room })) m
request_in old new n w g room space a b h m =
    let same : (λ k. place_in k old) ≡ (λ k. place k (record { held = all_held old; queue = all_queued old; room = room })) = λ i k. sym (place_is k old room a) i in
    place_is m new space b ∙ h m ∙ ap (λ (P : Places). with_request n w g P m) same

-- a release at every name
pub in_released : (t : Txn) (n : List ℕ) (items : List Standing) → place_in n (map (released_at t) items) ≡ released t (place_in n items)
in_released t n [] = refl
in_released t n (s ∷ items) = by (same_numbers n s.name) refl (in_released t n items)
  where
    by : (b : Bool) → same_numbers n s.name ≡ b → place_in n (map (released_at t) items) ≡ released t (place_in n items)
        → place_in n (map (released_at t) (s ∷ items)) ≡ released t (place_in n (s ∷ items))
    by true e ih = rw e refl
    by false e ih = rw e ih

over_released : (t : Txn) (n : List ℕ) (items : List Standing) → AreOver name_of n items → AreOver name_of n (map (released_at t) items)
over_released t n [] o = tt
over_released t n (s ∷ items) o = (o.0, over_released t n items o.1)

pub ascending_released : (t : Txn) (items : List Standing) → IsAscending name_of items → IsAscending name_of (map (released_at t) items)
ascending_released t [] a = tt
ascending_released t (s ∷ items) a = (over_released t s.name items a.0, ascending_released t items a.1)

pub each_set : (P : Standing → Type 0) (before behind : List Standing) (x y : Standing) → P y → Each P (before ++ x ∷ behind) → Each P (before ++ y ∷ behind)
each_set P [] behind x y p e = (p, e.1)
each_set P (s ∷ before) behind x y p e = (e.0, each_set P before behind x y p e.1)

pub each_insert : (P : Standing → Type 0) (before behind : List Standing) (y : Standing) → P y → Each P (before ++ behind) → Each P (before ++ y ∷ behind)
each_insert P [] behind y p e = (p, e)
each_insert P (s ∷ before) behind y p e = (e.0, each_insert P before behind y p e.1)

pub each_at : (P : Standing → Type 0) (before behind : List Standing) (x : Standing) → Each P (before ++ x ∷ behind) → P x
each_at P [] behind x e = e.0
each_at P (s ∷ before) behind x e = each_at P before behind x e.1

pub each_map : (P Q : Standing → Type 0) (f : Standing → Standing) → ((s : Standing) → P s → Q (f s)) → (items : List Standing) → Each P items → Each Q (map f items)
each_map P Q f h [] e = tt
each_map P Q f h (s ∷ items) e = (h s e.0, each_map P Q f h items e.1)

pub each_more : (P Q : Standing → Type 0) → ((s : Standing) → P s → Q s) → (items : List Standing) → Each P items → Each Q items
each_more P Q h [] e = tt
each_more P Q h (s ∷ items) e = (h s e.0, each_more P Q h items e.1)

pub fair_in : (n : List ℕ) (items : List Standing) → Each (λ s. is_fair s.place.held s.place.queue ≡ true) items → is_fair (place_in n items).held (place_in n items).queue ≡ true
fair_in n [] e = refl
fair_in n (s ∷ items) e = by (same_numbers n s.name) refl (fair_in n items e.1)
  where
    by : (b : Bool) → same_numbers n s.name ≡ b → is_fair (place_in n items).held (place_in n items).queue ≡ true
        → is_fair (place_in n (s ∷ items)).held (place_in n (s ∷ items)).queue ≡ true
    by true q ih = rw q e.0
    by false q ih = rw q ih

few_others : (t : Txn) (xs : List Lock) → length (others_of t xs) ≤ length xs
few_others t [] = omega arith
few_others t (x ∷ xs) = by (same_txn t x.txn) refl (few_others t xs)
  where
    by : (b : Bool) → same_txn t x.txn ≡ b → length (others_of t xs) ≤ length xs → length (others_of t (x ∷ xs)) ≤ length (x ∷ xs)
    by true e ih = rw e (omega (arith, ih))
    by false e ih = rw e (omega (arith, ih))

front_few : (held queue : List Lock) → length (front held queue) ≤ length queue
front_few held [] = omega arith
front_few held (v ∷ queue) = by (list_any (opposes v) held) refl (front_few (held ++ v ∷ []) queue)
  where
    by : (b : Bool) → list_any (opposes v) held ≡ b → length (front (held ++ v ∷ []) queue) ≤ length queue → length (front held (v ∷ queue)) ≤ length (v ∷ queue)
    by true e ih = rw e (omega arith)
    by false e ih = rw e (omega (arith, ih))

pub few_released : (t : Txn) (p : Place) → count_at (released t p) ≤ count_at p
few_released t p =
    let h = few_others t p.held in
    let q = few_others t p.queue in
    let f = front_few (others_of t p.held) (others_of t p.queue) in
    grind (arith, common_steps, h, q, f)

-- the name, if it has a queue
abbrev pub own_name : List ℕ → List Lock → List (List ℕ)
own_name n [] = []
own_name n (w ∷ ws) = n ∷ []

-- the names that have a queue
abbrev pub queue_names : List Standing → List (List ℕ)
queue_names [] = []
queue_names (s ∷ items) = own_name s.name s.place.queue ++ queue_names items

add_last : (acc : List (List ℕ)) (n : List ℕ) → AreUnder (λ (m : List ℕ). m) n acc → add_name acc n ≡ acc ++ n ∷ []
add_last [] n u = refl
add_last (m ∷ acc) n u = rw (turned_back n m u.0) (ap (λ (l : List (List ℕ)). m ∷ l) (add_last acc n u.1))

add_again : (acc : List (List ℕ)) (n : List ℕ) → AreUnder (λ (m : List ℕ). m) n acc → add_name (acc ++ n ∷ []) n ≡ acc ++ n ∷ []
add_again [] n u = rw (tied_itself nat_list_cmp_total n) refl
add_again (m ∷ acc) n u = rw (turned_back n m u.0) (ap (λ (l : List (List ℕ)). m ∷ l) (add_again acc n u.1))

abbrev step : List (List ℕ) → Granted → List (List ℕ)
step names g = add_name names g.name

again : (acc : List (List ℕ)) (n : List ℕ) (ws : List Lock) → AreUnder (λ (m : List ℕ). m) n acc → fold step (acc ++ n ∷ []) (map (named n) ws) ≡ acc ++ n ∷ []
again acc n [] u = refl
again acc n (w ∷ ws) u = ap (λ (l : List (List ℕ)). fold step l (map (named n) ws)) (add_again acc n u) ∙ again acc n ws u

under_last : (acc : List (List ℕ)) (n m : List ℕ) → AreUnder (λ (k : List ℕ). k) m acc → IsUnder n m → AreUnder (λ (k : List ℕ). k) m (acc ++ n ∷ [])
under_last [] n m u e = (e, tt)
under_last (k ∷ acc) n m u e = (u.0, under_last acc n m u.1 e)

all_under_last : (acc : List (List ℕ)) (n : List ℕ) (items : List Standing) → Each (λ s. AreUnder (λ (k : List ℕ). k) s.name acc) items → AreOver name_of n items
    → Each (λ s. AreUnder (λ (k : List ℕ). k) s.name (acc ++ n ∷ [])) items
all_under_last acc n [] e o = tt
all_under_last acc n (s ∷ items) e o = (under_last acc n s.name e.0 o.0, all_under_last acc n items e.1 o.1)

names_from : (acc : List (List ℕ)) (items : List Standing) → IsAscending name_of items → Each (λ s. AreUnder (λ (k : List ℕ). k) s.name acc) items
    → fold step acc (all_queued items) ≡ acc ++ queue_names items
names_from acc [] a e = sym (append-nil acc)
names_from acc (s ∷ items) a e =
    fold-append step acc (map (named s.name) s.place.queue) (all_queued items)
    ∙ by s.place.queue refl (names_from acc items a.1 e.1) (names_from (acc ++ s.name ∷ []) items a.1 (all_under_last acc s.name items e.1 a.0))
  where
    by : (q : List Lock) → s.place.queue ≡ q → fold step acc (all_queued items) ≡ acc ++ queue_names items
        → fold step (acc ++ s.name ∷ []) (all_queued items) ≡ (acc ++ s.name ∷ []) ++ queue_names items
        → fold step (fold step acc (map (named s.name) s.place.queue)) (all_queued items) ≡ acc ++ queue_names (s ∷ items)
    by [] q same rest = rw q same
    by (w ∷ ws) q same rest =
        let first : fold step acc (map (named s.name) (w ∷ ws)) ≡ acc ++ s.name ∷ [] =
        ap (λ (l : List (List ℕ)). fold step l (map (named s.name) ws)) (add_last acc s.name e.0) ∙ again acc s.name ws e.0 in
        rw q (ap (λ (l : List (List ℕ)). fold step l (all_queued items)) first ∙ rest ∙ append_assoc acc (s.name ∷ []) (queue_names items))

none_yet : (items : List Standing) → Each (λ s. AreUnder (λ (k : List ℕ). k) s.name []) items
none_yet [] = tt
none_yet (s ∷ items) = (tt, none_yet items)

own_places : (n : List ℕ) (p : Place) (items rest : List Standing) → AreOver name_of n rest
    → Each (λ s. place_in s.name items ≡ s.place) rest → Each (λ s. place_in s.name (record { name = n; place = p } ∷ items) ≡ s.place) rest
own_places n p items [] o e = tt
own_places n p items (s ∷ rest) o e =
    (rw (apart_back s.name n o.0) e.0, own_places n p items rest o.1 e.1)

pub each_own : (items : List Standing) → IsAscending name_of items → Each (λ s. place_in s.name items ≡ s.place) items
each_own [] a = tt
each_own (s ∷ items) a = (rw (same_numbers_refl s.name) refl, own_places s.name s.place items items a.0 (each_own items a.1))

-- What is read off each name that has a queue, in byte order, is read off each place in turn, if places without a queue
-- give nothing.
module _ {X : Type 0} (f : List ℕ → Place → List X) (quiet : (n : List ℕ) (held : List Lock) → f n (record { held = held; queue = [] }) ≡ []) where
  by_names : (at : List ℕ → Place) (items : List Standing) → Each (λ s. at s.name ≡ s.place) items
      → flat_map (λ n. f n (at n)) (queue_names items) ≡ flat_map (λ s. f s.name s.place) items
  by_names at [] e = refl
  by_names at (s ∷ items) e =
      flat_map-append (λ n. f n (at n)) (own_name s.name s.place.queue) (queue_names items)
      ∙ ap (λ (l : List X). l ++ flat_map (λ n. f n (at n)) (queue_names items)) (one s.name s.place e.0)
      ∙ ap (λ (l : List X). f s.name s.place ++ l) (by_names at items e.1)
    where
      one : (n : List ℕ) (p : Place) → at n ≡ p → flat_map (λ n. f n (at n)) (own_name n p.queue) ≡ f n p
      one n p q = by p.queue refl
        where
          by : (queue : List Lock) → p.queue ≡ queue → flat_map (λ n. f n (at n)) (own_name n p.queue) ≡ f n p
          by [] r =
              let quiet_p : p ≡ record { held = p.held; queue = [] } = λ i. record { held = p.held; queue = r i } in
              ap (λ (l : List Lock). flat_map (λ n. f n (at n)) (own_name n l)) r ∙ sym (ap (f n) quiet_p ∙ quiet n p.held)
          by (w ∷ ws) r = ap (λ (l : List Lock). flat_map (λ n. f n (at n)) (own_name n l)) r ∙ append-nil (f n (at n)) ∙ ap (f n) q

  pub by_places : (items : List Standing) (room : ℕ) → IsAscending name_of items
      → flat_map (λ n. f n (place n (record { held = all_held items; queue = all_queued items; room = room }))) (names_of (all_queued items))
      ≡ flat_map (λ s. f s.name s.place) items
  by_places items room a =
      let at : List ℕ → Place = λ n. place n (record { held = all_held items; queue = all_queued items; room = room }) in
      let same : (λ n. place_in n items) ≡ at = λ i n. sym (place_is n items room a) i in
      let own : Each (λ s. at s.name ≡ s.place) items = subst (λ (P : List ℕ → Place). Each (λ s. P s.name ≡ s.place) items) same (each_own items a) in
      ap (λ (l : List (List ℕ)). flat_map (λ n. f n (at n)) l) (names_from [] items a (none_yet items)) ∙ by_names at items own

-- a table with another place for a name, or with one more, or behind a release
pub table_set : (before behind : List Standing) (x y : Standing) (most more : ℕ) → y.name ≡ x.name → count_at y.place ≤ more → most ≤ more → more < 2 ^ 63
    → is_fair y.place.held y.place.queue ≡ true → IsTable (before ++ x ∷ behind) most → IsTable (before ++ y ∷ behind) more
table_set before behind x y most more e few le small fair t = record {
  ascending = ascending_set name_of before x y behind e t.ascending;
  few = each_set (λ s. count_at s.place ≤ more) before behind x y few (each_more (λ s. count_at s.place ≤ most) (λ s. count_at s.place ≤ more) (λ s p. omega (arith, p, le)) (before ++ x ∷ behind) t.few);
  fair = each_set (λ s. is_fair s.place.held s.place.queue ≡ true) before behind x y fair t.fair;
  small = small;
}

pub table_insert : (before behind : List Standing) (y : Standing) (most more : ℕ) → AreUnder name_of y.name before → AreOver name_of y.name behind → count_at y.place ≤ more → most ≤ more → more < 2 ^ 63
    → is_fair y.place.held y.place.queue ≡ true → IsTable (before ++ behind) most → IsTable (before ++ y ∷ behind) more
table_insert before behind y most more u o few le small fair t = record {
  ascending = ascending_insert name_of before y behind t.ascending u o;
  few = each_insert (λ s. count_at s.place ≤ more) before behind y few (each_more (λ s. count_at s.place ≤ most) (λ s. count_at s.place ≤ more) (λ s p. omega (arith, p, le)) (before ++ behind) t.few);
  fair = each_insert (λ s. is_fair s.place.held s.place.queue ≡ true) before behind y fair t.fair;
  small = small;
}

pub table_released : (t : Txn) (items : List Standing) (most : ℕ) → IsTable items most → IsTable (map (released_at t) items) most
table_released t items most a = record {
  ascending = ascending_released t items a.ascending;
  few = each_map (λ s. count_at s.place ≤ most) (λ s. count_at s.place ≤ most) (released_at t) (λ s p. (let q = few_released t s.place in omega (arith, p, q))) items a.few;
  fair = each_map (λ s. is_fair s.place.held s.place.queue ≡ true) (λ s. is_fair s.place.held s.place.queue ≡ true) (released_at t) (λ s p. fair_released t s.place p) items a.fair;
  small = a.small;
}

-- one more of these is changed in its place
pub set_step : (f : Standing → Standing) (init : List Standing) (k : ℕ) (x y : Standing) → k < length init
    → x ≡ get_or (map f (take k init) ++ drop k init) k x → y ≡ f x
    → slice_set (map f (take k init) ++ drop k init) k y ≡ map f (take (suc k) init) ++ drop (suc k) init
set_step f [] k x y lt is e = absurd (omega (arith, lt))
set_step f (z ∷ zs) zero x y lt is e = ap (λ (s : Standing). s ∷ zs) (e ∙ ap f is)
set_step f (z ∷ zs) (suc k) x y lt is e = ap (λ (l : List Standing). f z ∷ l) (set_step f zs k x y (omega (arith, lt)) is e)
