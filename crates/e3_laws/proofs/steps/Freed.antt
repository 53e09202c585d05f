-- No more requests are granted than wait, and no more wait than steps were made.
use Rattle.std.proofs.Common.{◌≡◌, ◌≤◌, ◌+◌, ◌∷◌, [], ℕ, zero, suc, Bool, true, false, not, ◌&&◌, List, Option, Some, None, refl, sym, subst, ap, ◌∙◌, arith, length, length-append, filter, fold, take}
use Rattle.std.specs.List.{flat_map}
use Rattle.std.specs.Ordering.{nat_cmp, match_ordering, ordering_reverse}
use Rattle.std.specs.declared.cmp.Ordering.{Ordering}
use Rattle.std.specs.declared.cmp.Ordering.TheVariants.{Less, Equal, Greater}
use Rattle.std.specs.Cmp.Lexicographic.{slice_cmp, nat_list_cmp_total}
use Rattle.std.proofs.lemmas.Cmp.{tied_itself}
use Rattle.e3_types.specs.Locks.{front}
use Rattle.e3_types.specs.Same.{same_numbers}
use Rattle.e3_types.proofs.SameSites.{same_numbers_eq}
use Rattle.e3_world.specs.declared.lives.Asked.{Asked}
use Rattle.e3_world.specs.declared.lives.At.{At}
use Rattle.e3_world.specs.declared.lives.Made.{Made}
use Rattle.e3_world.specs.declared.lives.Moment.{Moment}
use Rattle.e3_world.specs.Logs.{key_of, is_undecided}
use Rattle.e3_world.specs.Making.{add_name, asked_on, granted_on, grants_after, log_now, names_of, steps_now}
use Rattle.e3_world.specs.Operations.{Arrived, and_arrived, arrivals, arrived_by, holders, is_answered, is_fresh, queue, taken_up, waiting}

-- ---- names, each once

abbrev cmp : List ℕ → List ℕ → Ordering
cmp = slice_cmp nat_cmp

-- the name is below all of these
abbrev Below : List ℕ → List (List ℕ) → Type 0
Below n [] = Unit {0}
Below n (m ∷ ms) = (cmp n m ≡ Less) × Below n ms

abbrev Ascending : List (List ℕ) → Type 0
Ascending [] = Unit {0}
Ascending (n ∷ ns) = Below n ns × Ascending ns

below_more : (n m : List ℕ) (ms : List (List ℕ)) → cmp n m ≡ Less → Below m ms → Below n ms
below_more n m [] e b = tt
below_more n m (x ∷ xs) e b = (nat_list_cmp_total.trans n m x e b.0, below_more n m xs e b.1)

turned : (n m : List ℕ) → cmp n m ≡ Greater → cmp m n ≡ Less
turned n m e = let t = nat_list_cmp_total.antisymm m n in t ∙ ap ordering_reverse e

add_below : (k new : List ℕ) (ns : List (List ℕ)) → cmp k new ≡ Less → Below k ns → Below k (add_name ns new)
add_below k new [] e b = (e, tt)
add_below k new (n ∷ ns) e b = by (cmp new n) (add_below k new ns e b.1)
  where
    by : (o : Ordering) → Below k (add_name ns new) → Below k (match_ordering o (new ∷ n ∷ ns) (n ∷ ns) (n ∷ add_name ns new))
    by Less ih = (e, b)
    by Equal ih = b
    by Greater ih = (b.0, ih)

add_ascending : (ns : List (List ℕ)) (new : List ℕ) → Ascending ns → Ascending (add_name ns new)
add_ascending [] new a = (tt, tt)
add_ascending (n ∷ ns) new a = by (cmp new n) refl (add_ascending ns new a.1)
  where
    by : (o : Ordering) → cmp new n ≡ o → Ascending (add_name ns new) → Ascending (match_ordering o (new ∷ n ∷ ns) (n ∷ ns) (n ∷ add_name ns new))
    by Less e ih = ((e, below_more new n ns e a.0), a)
    by Equal e ih = a
    by Greater e ih = (add_below n new ns (turned new n e) a.0, ih)

names_ascend : (asked : List Asked) (ns : List (List ℕ)) → Ascending ns → Ascending (fold (λ names q. add_name names (key_of q.op).name) ns asked)
names_ascend [] ns a = a
names_ascend (q ∷ asked) ns a = names_ascend asked (add_name ns (key_of q.op).name) (add_ascending ns (key_of q.op).name a)

-- a name below others is none of them
none_below : (n x : List ℕ) (ms : List (List ℕ)) → n ≡ x → Below n ms → length (filter (λ m. same_numbers m x) ms) ≤ 0
none_below n x [] same b = omega arith
none_below n x (m ∷ ms) same b = by (same_numbers m x) refl (none_below n x ms same b.1)
  where
    by : (c : Bool) → same_numbers m x ≡ c → length (filter (λ m. same_numbers m x) ms) ≤ 0 → length (filter (λ m. same_numbers m x) (m ∷ ms)) ≤ 0
    by true is rest =
        let tie = tied_itself nat_list_cmp_total n in
        let m_is : m ≡ n = same_numbers_eq m x is ∙ sym same in
        let less : cmp n n ≡ Less = subst (λ (l : List ℕ). cmp n l ≡ Less) m_is b.0 in
        absurd (let both : Less ≡ Equal = sym less ∙ tie in cc)
    by false is rest = rw is rest

-- so each name stands once at most
one_name : (x : List ℕ) (ns : List (List ℕ)) → Ascending ns → length (filter (λ n. same_numbers n x) ns) ≤ 1
one_name x [] a = omega arith
one_name x (n ∷ ns) a = by (same_numbers n x) refl (one_name x ns a.1)
  where
    by : (c : Bool) → same_numbers n x ≡ c → length (filter (λ n. same_numbers n x) ns) ≤ 1 → length (filter (λ n. same_numbers n x) (n ∷ ns)) ≤ 1
    by true is most = rw is (let rest = none_below n x ns (same_numbers_eq n x is) a.0 in omega (arith, rest))
    by false is most = rw is most

-- ---- requests by their names

abbrev on_names : List Asked → List (List ℕ) → List Asked
on_names asked ns = flat_map (λ n. asked_on n asked) ns

abbrev name_of : Asked → List ℕ
name_of q = (key_of q.op).name

one_more_on : (q : Asked) (asked : List Asked) (ns : List (List ℕ)) →
    length (on_names (q ∷ asked) ns) ≡ length (filter (λ n. same_numbers n (name_of q)) ns) + length (on_names asked ns)
one_more_on q asked [] = refl
one_more_on q asked (n ∷ ns) = by (same_numbers n (name_of q)) refl (one_more_on q asked ns)
  where
    by : (c : Bool) → same_numbers n (name_of q) ≡ c → length (on_names (q ∷ asked) ns) ≡ length (filter (λ n. same_numbers n (name_of q)) ns) + length (on_names asked ns) →
        length (on_names (q ∷ asked) (n ∷ ns)) ≡ length (filter (λ n. same_numbers n (name_of q)) (n ∷ ns)) + length (on_names asked (n ∷ ns))
    by true is rest =
        let whole = length-append (asked_on n asked) (on_names (q ∷ asked) ns) in
        let part = length-append (asked_on n asked) (on_names asked ns) in
        rw is (omega (arith, rest, whole, part))
    by false is rest =
        let whole = length-append (asked_on n asked) (on_names (q ∷ asked) ns) in
        let part = length-append (asked_on n asked) (on_names asked ns) in
        rw is (omega (arith, rest, whole, part))

nothing_on : (ns : List (List ℕ)) → length (on_names [] ns) ≤ 0
nothing_on [] = omega arith
nothing_on (n ∷ ns) = nothing_on ns

named_once : (asked : List Asked) (ns : List (List ℕ)) → Ascending ns → length (on_names asked ns) ≤ length asked
named_once [] ns a = nothing_on ns
named_once (q ∷ asked) ns a =
    let split = one_more_on q asked ns in
    let one = one_name (name_of q) ns a in
    let rest = named_once asked ns a in
    omega (arith, split, one, rest)

taken_few : {X : Type 0} (k : ℕ) (xs : List X) → length (take k xs) ≤ length xs
taken_few zero xs = omega arith
taken_few (suc k) [] = omega arith
taken_few (suc k) (x ∷ xs) = let rest = taken_few k xs in omega (arith, rest)

granted_few : (a : At) (made : Made) (asked : List Asked) (ns : List (List ℕ)) → length (flat_map (granted_on a made asked) ns) ≤ length (on_names asked ns)
granted_few a made asked [] = omega arith
granted_few a made asked (n ∷ ns) =
    let k : ℕ = length (front (holders a.site n (log_now a made) (steps_now a made)) (queue n (asked_on n asked))) in
    let here = taken_few k (asked_on n asked) in
    let rest = granted_few a made asked ns in
    let whole = length-append (take k (asked_on n asked)) (flat_map (granted_on a made asked) ns) in
    let part = length-append (asked_on n asked) (on_names asked ns) in
    omega (arith, here, rest, whole, part)

-- ---- what waits came with a step

arrives_once : (asked : List Asked) (m : Moment) (taken : Option Asked) → length (and_arrived asked m taken) ≤ length asked + 1
arrives_once asked m None = omega arith
arrives_once asked m (Some a) = by (is_fresh asked m a) refl
  where
    by : (b : Bool) → is_fresh asked m a ≡ b → length (and_arrived asked m (Some a)) ≤ length asked + 1
    by true is = rw is (let n = length-append asked (a ∷ []) in omega (arith, n))
    by false is = rw is (omega arith)

arrived_few : (site : ℕ) (was : Arrived) (steps : List Moment) → length (fold (arrived_by site) was steps).asked ≤ length was.asked + length steps
arrived_few site was [] = omega arith
arrived_few site was (m ∷ ms) =
    let one = arrives_once was.asked m (taken_up site was.steps m) in
    let rest = arrived_few site (arrived_by site was m) ms in
    omega (arith, one, rest)

kept_few : {X : Type 0} (p : X → Bool) (xs : List X) → length (filter p xs) ≤ length xs
kept_few p [] = omega arith
kept_few p (x ∷ xs) = by (p x) refl (kept_few p xs)
  where
    by : (b : Bool) → p x ≡ b → length (filter p xs) ≤ length xs → length (filter p (x ∷ xs)) ≤ length (x ∷ xs)
    by true is rest = rw is (omega (arith, rest))
    by false is rest = rw is (omega (arith, rest))

-- one step brings one request at most, and this step one more
pub grants_few : (a : At) (made : Made) → length (grants_after a made) ≤ suc (length a.life.steps)
grants_few a made =
    let waits : List Asked = waiting a.site (log_now a made) (steps_now a made) in
    let granted = granted_few a made waits (names_of waits) in
    let once = named_once waits (names_of waits) (names_ascend waits [] tt) in
    let wait = kept_few (λ q. is_undecided q.txn (log_now a made) && not (is_answered (steps_now a made) q)) (arrivals a.site (steps_now a made)) in
    let came = arrived_few a.site (record { steps = []; asked = [] }) (steps_now a made) in
    let this : Moment = record { before = a.life.log; input = a.input; records = made.records; outs = made.outs; told = made.told } in
    let all = length-append a.life.steps (this ∷ []) in
    omega (arith, granted, once, wait, came, all)
