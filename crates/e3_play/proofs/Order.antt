-- Transactions in ascending order: what is added in several parts is what is added in one.
use Rattle.std.proofs.Common.{◌≡◌, ◌==◌, ◌&&◌, ◌||◌, ◌∷◌, [], ℕ, Bool, true, false, nat_lt, List, fold, refl, sym, subst, ap, ◌∙◌, arith}
use Rattle.std.specs.List.{flat_map}
use Rattle.std.proofs.lemmas.Grind.{common_steps, fold-append}
use Rattle.e3_types.specs.declared.transactions.Txn.{Txn}
use Rattle.e3_types.specs.Same.{same_txn, is_older}
use Rattle.e3_types.specs.Sites.{bits_of}
use Rattle.e3_types.proofs.Orders.{older_irreflexive, older_transitive}
use Rattle.e3_types.proofs.SameSites.{same_numbers_eq, same_numbers_refl}
use Rattle.e3_world.specs.Items.{add_txn}
use Rattle.e3_world.proofs.Turns.{true_not_false}

-- the test of equality
pub same_self : (t : Txn) → same_txn t t ≡ true
same_self t = let sites = same_numbers_refl t.sites in grind (arith, common_steps, sites)

pub same_is : (t u : Txn) → same_txn t u ≡ true → t ≡ u
same_is t u e =
    let sites = same_numbers_eq t.sites u.sites in
    grind (arith, common_steps, sites, e)

-- smaller by a number, or by the rest where the numbers are equal
abbrev before : ℕ → ℕ → Bool → Bool
before a b rest = nat_lt a b || (a == b && rest)

before_not : (a b c : ℕ) (r s q : Bool) → (r ≡ true → s ≡ false → q ≡ true) → before a b r ≡ true → before c b s ≡ false → before a c q ≡ true
before_not a b c r s q more e f = grind (arith, common_steps, more, e, f)

less_not : (a b c : ℕ) → nat_lt a b ≡ true → nat_lt c b ≡ false → nat_lt a c ≡ true
less_not a b c e f = grind (arith, common_steps, e, f)

-- what is older than one is older than all that are not older than it
pub older_not : (t u v : Txn) → is_older t u ≡ true → is_older v u ≡ false → is_older t v ≡ true
older_not t u v =
    before_not t.site u.site v.site _ _ _
    (before_not t.inc u.inc v.inc _ _ _
    (before_not t.seq u.seq v.seq _ _ _ (less_not (bits_of t.sites) (bits_of u.sites) (bits_of v.sites))))

pub not_back : (t u : Txn) → is_older t u ≡ true → is_older u t ≡ false
not_back t u older = by (is_older u t) refl
  where
    by : (b : Bool) → is_older u t ≡ b → is_older u t ≡ false
    by false is = is
    by true is = absurd (true_not_false (sym (older_transitive t u t older is) ∙ older_irreflexive t))

pub not_same : (t u : Txn) → is_older t u ≡ true → same_txn t u ≡ false
not_same t u older = by (same_txn t u) refl
  where
    by : (b : Bool) → same_txn t u ≡ b → same_txn t u ≡ false
    by false is = is
    by true is = absurd (true_not_false (sym older ∙ (let P : Txn → Type 0 = λ v. is_older t v ≡ false in subst P (same_is t u is) (older_irreflexive t))))

pub not_same_back : (t u : Txn) → is_older t u ≡ true → same_txn u t ≡ false
not_same_back t u older = by (same_txn u t) refl
  where
    by : (b : Bool) → same_txn u t ≡ b → same_txn u t ≡ false
    by false is = is
    by true is = absurd (true_not_false (sym older ∙ (let P : Txn → Type 0 = λ v. is_older v u ≡ false in subst P (same_is u t is) (older_irreflexive u))))

-- what is added at a head: it is there, it comes before it, or it goes on
add_there : (t new : Txn) (ts : List Txn) → same_txn t new ≡ true → add_txn (t ∷ ts) new ≡ t ∷ ts
add_there t new ts is = rw is refl

add_here : (t new : Txn) (ts : List Txn) → is_older new t ≡ true → add_txn (t ∷ ts) new ≡ new ∷ t ∷ ts
add_here t new ts older = rw (not_same_back new t older, older) refl

add_on : (t new : Txn) (ts : List Txn) → same_txn t new ≡ false → is_older new t ≡ false → add_txn (t ∷ ts) new ≡ t ∷ add_txn ts new
add_on t new ts apart later = rw (apart, later) refl

-- one that was added is there
pub data Place (t new : Txn) : Type 0 where
  There : same_txn t new ≡ true → Place t new
  Here : is_older new t ≡ true → Place t new
  On : same_txn t new ≡ false → is_older new t ≡ false → Place t new

place : (t new : Txn) → Place t new
place t new = by (same_txn t new) refl (is_older new t) refl
  where
    by : (a : Bool) → same_txn t new ≡ a → (b : Bool) → is_older new t ≡ b → Place t new
    by true same b is = There same
    by false apart true older = Here older
    by false apart false later = On apart later

pub add_again : (ts : List Txn) (a : Txn) → add_txn (add_txn ts a) a ≡ add_txn ts a
add_again [] a = add_there a a [] (same_self a)
add_again (t ∷ ts) a = by (place t a) (add_again ts a)
  where
    by : Place t a → add_txn (add_txn ts a) a ≡ add_txn ts a → add_txn (add_txn (t ∷ ts) a) a ≡ add_txn (t ∷ ts) a
    by (There same) rest = ap (λ l. add_txn l a) (add_there t a ts same)
    by (Here older) rest = ap (λ l. add_txn l a) (add_here t a ts older) ∙ add_there a a (t ∷ ts) (same_self a) ∙ sym (add_here t a ts older)
    by (On apart later) rest =
        ap (λ l. add_txn l a) (add_on t a ts apart later) ∙ add_on t a (add_txn ts a) apart later
        ∙ ap (λ l. t ∷ l) rest ∙ sym (add_on t a ts apart later)

pub data Has (t : Txn) : List Txn → Type 0 where
  First : (x : Txn) (xs : List Txn) → same_txn x t ≡ true → Has t (x ∷ xs)
  Later : (x : Txn) (xs : List Txn) → same_txn x t ≡ false → is_older t x ≡ false → Has t xs → Has t (x ∷ xs)

has_added : (ts : List Txn) (a : Txn) → Has a (add_txn ts a)
has_added [] a = First a [] (same_self a)
has_added (t ∷ ts) a = by (place t a) (has_added ts a)
  where
    P : List Txn → Type 0
    P l = Has a l

    by : Place t a → Has a (add_txn ts a) → Has a (add_txn (t ∷ ts) a)
    by (There same) rest = subst P (sym (add_there t a ts same)) (First t ts same)
    by (Here older) rest = subst P (sym (add_here t a ts older)) (First a (t ∷ ts) (same_self a))
    by (On apart later) rest = subst P (sym (add_on t a ts apart later)) (Later t (add_txn ts a) apart later rest)

-- it stays there
has_kept : (t : Txn) (ts : List Txn) (u : Txn) → Has t ts → Has t (add_txn ts u)
has_kept t ts u (First x xs same) = by (place x u)
  where
    P : List Txn → Type 0
    P l = Has t l

    is : x ≡ t
    is = same_is x t same

    by : Place x u → Has t (add_txn (x ∷ xs) u)
    by (There equal) = subst P (sym (add_there x u xs equal)) (First x xs same)
    by (Here older) =
        let before_t : is_older u t ≡ true = subst (λ v. is_older u v ≡ true) is older in
        subst P (sym (add_here x u xs older)) (Later u (x ∷ xs) (not_same u t before_t) (not_back u t before_t) (First x xs same))
    by (On apart later) = subst P (sym (add_on x u xs apart later)) (First x (add_txn xs u) same)
has_kept t ts u (Later x xs apart later rest) = by (place x u) (has_kept t xs u rest)
  where
    P : List Txn → Type 0
    P l = Has t l

    in_front : is_older u x ≡ true → Place u t → Has t (u ∷ x ∷ xs)
    in_front older (There equal) = First u (x ∷ xs) equal
    in_front older (Here first) = absurd (true_not_false (sym (older_transitive t u x first older) ∙ later))
    in_front older (On away behind) = Later u (x ∷ xs) away behind (Later x xs apart later rest)

    by : Place x u → Has t (add_txn xs u) → Has t (add_txn (x ∷ xs) u)
    by (There equal) more = subst P (sym (add_there x u xs equal)) (Later x xs apart later rest)
    by (Here older) more = subst P (sym (add_here x u xs older)) (in_front older (place u t))
    by (On away behind) more = subst P (sym (add_on x u xs away behind)) (Later x (add_txn xs u) apart later more)

has_through : (ts us : List Txn) (t : Txn) → Has t ts → Has t (fold add_txn ts us)
has_through ts [] t has = has
has_through ts (u ∷ us) t has = has_through (add_txn ts u) us t (has_kept t ts u has)

-- what is there is not added again
add_had : (t : Txn) (ts : List Txn) → Has t ts → add_txn ts t ≡ ts
add_had t ts (First x xs same) = add_there x t xs same
add_had t ts (Later x xs apart later rest) = add_on x t xs apart later ∙ ap (λ l. x ∷ l) (add_had t xs rest)

-- of two transactions it is one which is added first
pub add_either : (ts : List Txn) (a b : Txn) → is_older a b ≡ true → add_txn (add_txn ts a) b ≡ add_txn (add_txn ts b) a
add_either [] a b older = add_on a b [] (not_same a b older) (not_back a b older) ∙ sym (add_here b a [] older)
add_either (t ∷ ts) a b older = by (place t a) (place t b) (add_either ts a b older)
  where
    Goal : Type 0
    Goal = add_txn (add_txn (t ∷ ts) a) b ≡ add_txn (add_txn (t ∷ ts) b) a

    in_front : is_older a t ≡ true → Place t b → a ∷ add_txn (t ∷ ts) b ≡ add_txn (add_txn (t ∷ ts) b) a
    in_front first (There equal) =
        ap (λ l. a ∷ l) (add_there t b ts equal) ∙ sym (ap (λ l. add_txn l a) (add_there t b ts equal) ∙ add_here t a ts first)
    in_front first (Here before_t) =
        ap (λ l. a ∷ l) (add_here t b ts before_t) ∙ sym (ap (λ l. add_txn l a) (add_here t b ts before_t) ∙ add_here b a (t ∷ ts) older)
    in_front first (On apart later) =
        ap (λ l. a ∷ l) (add_on t b ts apart later) ∙ sym (ap (λ l. add_txn l a) (add_on t b ts apart later) ∙ add_here t a (add_txn ts b) first)

    both_on : same_txn t a ≡ false → is_older a t ≡ false → same_txn t b ≡ false → is_older b t ≡ false →
        add_txn (add_txn ts a) b ≡ add_txn (add_txn ts b) a → Goal
    both_on apart_a later_a apart_b later_b rest =
        ap (λ l. add_txn l b) (add_on t a ts apart_a later_a) ∙ add_on t b (add_txn ts a) apart_b later_b ∙ ap (λ l. t ∷ l) rest
        ∙ sym (ap (λ l. add_txn l a) (add_on t b ts apart_b later_b) ∙ add_on t a (add_txn ts b) apart_a later_a)

    behind : t ≡ a → Goal
    behind is =
        let first : is_older t b ≡ true = subst (λ v. is_older v b ≡ true) (sym is) older in
        let same : same_txn t a ≡ true = subst (λ v. same_txn t v ≡ true) is (same_self t) in
        let on : (us : List Txn) → add_txn (t ∷ us) b ≡ t ∷ add_txn us b = λ us. add_on t b us (not_same t b first) (not_back t b first) in
        ap (λ l. add_txn l b) (add_there t a ts same) ∙ on ts ∙ sym (ap (λ l. add_txn l a) (on ts) ∙ add_there t a (add_txn ts b) same)

    by : Place t a → Place t b → add_txn (add_txn ts a) b ≡ add_txn (add_txn ts b) a → Goal
    by (There same) at rest = behind (same_is t a same)
    by (Here first) at rest =
        ap (λ l. add_txn l b) (add_here t a ts first) ∙ add_on a b (t ∷ ts) (not_same a b older) (not_back a b older) ∙ in_front first at
    by (On apart later) (There equal) rest = absurd (true_not_false (sym older ∙ subst (λ v. is_older a v ≡ false) (same_is t b equal) later))
    by (On apart later) (Here before_t) rest = absurd (true_not_false (sym (older_transitive a b t older before_t) ∙ later))
    by (On apart later) (On apart_b later_b) rest = both_on apart later apart_b later_b rest

-- the second is another one, and not older
pub record IsLater (t u : Txn) : Type 0 where
  pub apart : same_txn t u ≡ false
  pub later : is_older u t ≡ false

abbrev pub Behind : Txn → List Txn → Type 0
Behind t [] = Unit {0}
Behind t (u ∷ us) = IsLater t u × Behind t us

abbrev pub Ascending : List Txn → Type 0
Ascending [] = Unit {0}
Ascending (t ∷ ts) = Behind t ts × Ascending ts

behind_added : (t a : Txn) (us : List Txn) → IsLater t a → Behind t us → Behind t (add_txn us a)
behind_added t a [] new all = (new, tt)
behind_added t a (u ∷ us) new all = by (place u a) (behind_added t a us new all.1)
  where
    P : List Txn → Type 0
    P l = Behind t l

    by : Place u a → Behind t (add_txn us a) → Behind t (add_txn (u ∷ us) a)
    by (There same) rest = subst P (sym (add_there u a us same)) all
    by (Here older) rest = subst P (sym (add_here u a us older)) (new, all)
    by (On apart later) rest = subst P (sym (add_on u a us apart later)) (all.0, rest)

-- one that is older than the first is older than all behind it
later_than : (a u : Txn) → is_older a u ≡ true → IsLater a u
later_than a u older = record { apart = not_same a u older; later = not_back a u older }

behind_older : (a t : Txn) (us : List Txn) → is_older a t ≡ true → Behind t us → Behind a us
behind_older a t [] older all = tt
behind_older a t (u ∷ us) older all = (later_than a u (older_not a t u older all.0.later), behind_older a t us older all.1)

ascending_added : (ts : List Txn) (a : Txn) → Ascending ts → Ascending (add_txn ts a)
ascending_added [] a was = (tt, tt)
ascending_added (t ∷ ts) a was = by (place t a) (ascending_added ts a was.1)
  where
    P : List Txn → Type 0
    P l = Ascending l

    by : Place t a → Ascending (add_txn ts a) → Ascending (add_txn (t ∷ ts) a)
    by (There same) rest = subst P (sym (add_there t a ts same)) was
    by (Here older) rest = subst P (sym (add_here t a ts older)) ((later_than a t older, behind_older a t ts older was.0), was)
    by (On apart later) rest = subst P (sym (add_on t a ts apart later)) (behind_added t a ts (record { apart = apart; later = later }) was.0, rest)

pub ascending_all : (ts us : List Txn) → Ascending ts → Ascending (fold add_txn ts us)
ascending_all ts [] was = was
ascending_all ts (u ∷ us) was = ascending_all (add_txn ts u) us (ascending_added ts u was)

-- what is older than all that are added may come last
add_through : (acc : List Txn) (a t : Txn) (us : List Txn) → is_older a t ≡ true → Behind t us → fold add_txn (add_txn acc a) us ≡ add_txn (fold add_txn acc us) a
add_through acc a t [] older all = refl
add_through acc a t (u ∷ us) older all =
    ap (λ l. fold add_txn l us) (add_either acc a u (older_not a t u older all.0.later)) ∙ add_through (add_txn acc u) a t us older all.1

add_last : (acc ts : List Txn) (a : Txn) → Ascending ts → fold add_txn acc (add_txn ts a) ≡ add_txn (fold add_txn acc ts) a
add_last acc [] a was = refl
add_last acc (t ∷ ts) a was = by (place t a) (add_last (add_txn acc t) ts a was.1)
  where
    all : List Txn
    all = fold add_txn (add_txn acc t) ts

    has : Has t all
    has = has_through (add_txn acc t) ts t (has_added acc t)

    by : Place t a → fold add_txn (add_txn acc t) (add_txn ts a) ≡ add_txn all a → fold add_txn acc (add_txn (t ∷ ts) a) ≡ add_txn all a
    by (There same) rest =
        ap (fold add_txn acc) (add_there t a ts same) ∙ sym (add_had t all has) ∙ ap (add_txn all) (same_is t a same)
    by (Here older) rest =
        ap (fold add_txn acc) (add_here t a ts older) ∙ ap (λ l. fold add_txn l ts) (add_either acc a t older)
        ∙ add_through (add_txn acc t) a t ts older was.0
    by (On apart later) rest = ap (fold add_txn acc) (add_on t a ts apart later) ∙ rest

-- what was added in order beforehand is added as it was
pub add_sorted : (acc ts us : List Txn) → Ascending ts → fold add_txn acc (fold add_txn ts us) ≡ fold add_txn (fold add_txn acc ts) us
add_sorted acc ts [] was = refl
add_sorted acc ts (u ∷ us) was =
    add_sorted acc (add_txn ts u) us (ascending_added ts u was) ∙ ap (λ l. fold add_txn l us) (add_last acc ts u was)

-- what each of several gives in order, added together, is what all of them give
pub add_parts : (acc : List Txn) (f : ℕ → List Txn) (xs : List ℕ) →
    fold add_txn acc (flat_map (λ x. fold add_txn [] (f x)) xs) ≡ fold add_txn acc (flat_map f xs)
add_parts acc f [] = refl
add_parts acc f (x ∷ xs) =
    fold-append add_txn acc (fold add_txn [] (f x)) (flat_map (λ y. fold add_txn [] (f y)) xs)
    ∙ ap (λ l. fold add_txn l (flat_map (λ y. fold add_txn [] (f y)) xs)) (add_sorted acc [] (f x) tt)
    ∙ add_parts (fold add_txn acc (f x)) f xs
    ∙ sym (fold-append add_txn acc (f x) (flat_map f xs))
