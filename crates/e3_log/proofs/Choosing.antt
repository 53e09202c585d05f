-- Which region counts, before and after a change of the other one.
use Rattle.std.proofs.Common.{◌≡◌, ◌≢◌, ◌<◌, ◌≤◌, ◌+◌, ◌∷◌, [], ◌++◌, ◌==◌, ℕ, Bool, true, false, List, Option, Some, None, length, refl, sym, ap, subst, ◌∙◌, arith, ne_eqb, eq-eqb, length-append, ◌^◌, ◌&&◌}
use Rattle.std.specs.Prelude.{nat_lt, nat_le, slice_index}
use Rattle.std.specs.Int.{w32, to_be_bytes}
use Rattle.std.proofs.lemmas.Bool.{and_right, and_from, le-leb, lt-ltb, le-ltb}
use Rattle.std.proofs.lemmas.Nat.{from_be_bytes-to_be_bytes_4}
use Rattle.e3_log.specs.declared.region.Front.{Front}
use Rattle.e3_log.specs.declared.region.Front.TheVariants.{Shut, Whole, Broken}
use Rattle.e3_log.specs.declared.region.Found.TheVariants.{Active}
use Rattle.e3_log.specs.declared.region.Region.{Region}
use Rattle.e3_log.specs.declared.region.Region.TheVariants.{First, Second}
use Rattle.e3_log.specs.Fronts.{TURN, turned, told_by, handed, bodies_in, front_of, generation_of, newer_of, active_of, found_of, is_open}
use Rattle.e3_log.specs.Regions.{other}

-- a body that does not begin with the tag tells no generation
pub untold : (body : List ℕ) → slice_index body 0 ≢ TURN → told_by body ≡ None
untold body tag =
    let off : (nat_le 5 (length body) && (slice_index body 0 == TURN)) ≡ false = and_right (nat_le 5 (length body)) (slice_index body 0 == TURN) (ne_eqb (slice_index body 0) TURN tag) in
    rw off refl

-- one that was made by a turn tells its own
pub told_turned : (g : ℕ) (body : List ℕ) → g < 2 ^ 32 → told_by (turned g body) ≡ Some g
told_turned g body few =
    let long : 5 ≤ length (turned g body) = omega (arith, length-append (to_be_bytes w32 g) body) in
    let test : (nat_le 5 (length (turned g body)) && (slice_index (turned g body) 0 == TURN)) ≡ true =
    and_from (nat_le 5 (length (turned g body))) (slice_index (turned g body) 0 == TURN) (le-leb 5 (length (turned g body)) long) (eq-eqb TURN TURN refl) in
    rw test (ap (λ n. Some n) (from_be_bytes-to_be_bytes_4 g few))

pub handed_untold : (body : List ℕ) → told_by body ≡ None → handed body ≡ body
handed_untold body none = rw none refl

pub handed_turned : (g : ℕ) (body : List ℕ) → g < 2 ^ 32 → handed (turned g body) ≡ body
handed_turned g body few = let is = told_turned g body few in rw is refl

-- one more body
pub bodies_push : (raw : List (List ℕ)) (body : List ℕ) → told_by body ≡ None → bodies_in (raw ++ body ∷ []) ≡ bodies_in raw ++ body ∷ []
bodies_push [] body none = ap (λ b. b ∷ []) (handed_untold body none)
bodies_push (first ∷ more) body none = refl

-- the first region counts where none is open
shut_active : (region : Region) (spare : Front) (g : ℕ) → found_of region Shut spare ≡ Active region g → (region ≡ First) × (spare ≡ Shut) × (g ≡ 0)
shut_active First Shut g is = let e : 0 ≡ g = cc in (refl, refl, sym e)
shut_active First (Whole (Some h)) g is = absurd cc
shut_active First (Whole None) g is = absurd cc
shut_active First Broken g is = absurd cc
shut_active Second Shut g is = absurd cc
shut_active Second (Whole told) g is = absurd cc
shut_active Second Broken g is = absurd cc

-- the region that counts still does behind an append
pub append_active : (region : Region) (raw : List (List ℕ)) (spare : Front) (g : ℕ) (body : List ℕ) → told_by body ≡ None
    → found_of region (front_of raw) spare ≡ Active region g → found_of region (front_of (raw ++ body ∷ [])) spare ≡ Active region g
append_active region (first ∷ more) spare g body none is = is
append_active region [] spare g body none is =
    let s = shut_active region spare g is in
    subst (λ (r : Region). found_of r (Whole (told_by body)) spare ≡ Active r g) (sym s.0)
    (subst (λ (f : Front). found_of First (Whole (told_by body)) f ≡ Active First g) (sym s.1)
    (ap (λ (o : Option ℕ). Active First (generation_of o)) none ∙ ap (λ n. Active First n) (sym s.2)))

newer_second : (f s : ℕ) → f < s → newer_of f s ≡ Active Second s
newer_second f s less =
    let differ = ne_eqb f s (λ e. omega arith) in
    let low = le-ltb s f (omega arith) in
    rw (differ, low) refl

newer_first : (f s : ℕ) → s < f → newer_of f s ≡ Active First f
newer_first f s less =
    let differ = ne_eqb f s (λ e. omega arith) in
    let low = lt-ltb s f less in
    rw (differ, low) refl

-- the other region counts behind a turn
pub turn_active : (region : Region) (raw : List (List ℕ)) (g : ℕ) → found_of region (front_of raw) Shut ≡ Active region g
    → found_of (other region) (Whole (Some (g + 1))) (front_of raw) ≡ Active (other region) (g + 1)
turn_active First [] g is = refl
turn_active First (first ∷ more) g is =
    let e : generation_of (told_by first) ≡ g = cc in newer_second (generation_of (told_by first)) (g + 1) (omega arith)
turn_active Second [] g is = absurd cc
turn_active Second (first ∷ more) g is = by (told_by first) refl
  where
    by : (o : Option ℕ) → told_by first ≡ o → found_of First (Whole (Some (g + 1))) (front_of (first ∷ more)) ≡ Active First (g + 1)
    by None e = absurd (let h : active_of Shut (Whole None) ≡ Active Second g = subst (λ (o : Option ℕ). active_of Shut (Whole o) ≡ Active Second g) e is in cc)
    by (Some h) e =
        let was : active_of Shut (Whole (Some h)) ≡ Active Second g = subst (λ (o : Option ℕ). active_of Shut (Whole o) ≡ Active Second g) e is in
        let same : h ≡ g = cc in
        subst (λ (o : Option ℕ). active_of (Whole (Some (g + 1))) (Whole o) ≡ Active First (g + 1)) (sym e) (newer_first (g + 1) h (omega arith))

newer_is_first : (f s g : ℕ) → newer_of f s ≡ Active First g → f ≡ g
newer_is_first f s g is = by (f == s) refl (nat_lt s f) refl
  where
    by : (b : Bool) → (f == s) ≡ b → (c : Bool) → nat_lt s f ≡ c → f ≡ g
    by true e c l = absurd (let h = rw e at is in cc)
    by false e true l = let h : Active First f ≡ Active First g = rw (e, l) at is in cc
    by false e false l = absurd (let h : Active Second s ≡ Active First g = rw (e, l) at is in cc)

newer_is_second : (f s g : ℕ) → newer_of f s ≡ Active Second g → s ≡ g
newer_is_second f s g is = by (f == s) refl (nat_lt s f) refl
  where
    by : (b : Bool) → (f == s) ≡ b → (c : Bool) → nat_lt s f ≡ c → s ≡ g
    by true e c l = absurd (let h = rw e at is in cc)
    by false e true l = absurd (let h : Active First f ≡ Active Second g = rw (e, l) at is in cc)
    by false e false l = let h : Active Second s ≡ Active Second g = rw (e, l) at is in cc

-- the region that counts still does where the other one is closed
pub clear_active : (region : Region) (own spare : Front) (g : ℕ) → found_of region own spare ≡ Active region g → is_open own ≡ true → found_of region own Shut ≡ Active region g
clear_active First Shut spare g is opens = absurd cc
clear_active First Broken spare g is opens = absurd cc
clear_active First (Whole told) Shut g is opens = is
clear_active First (Whole told) Broken g is opens = absurd cc
clear_active First (Whole told) (Whole None) g is opens = absurd cc
clear_active First (Whole told) (Whole (Some h)) g is opens = ap (λ n. Active First n) (newer_is_first (generation_of told) h g is)
clear_active Second Shut spare g is opens = absurd cc
clear_active Second Broken Shut g is opens = absurd cc
clear_active Second Broken (Whole told) g is opens = absurd cc
clear_active Second Broken Broken g is opens = absurd cc
clear_active Second (Whole None) Shut g is opens = absurd cc
clear_active Second (Whole None) (Whole told) g is opens = absurd cc
clear_active Second (Whole None) Broken g is opens = absurd cc
clear_active Second (Whole (Some h)) Shut g is opens = is
clear_active Second (Whole (Some h)) Broken g is opens = absurd cc
clear_active Second (Whole (Some h)) (Whole told) g is opens = ap (λ n. Active Second n) (newer_is_second (generation_of told) h g is)

-- where the other region is open, so is the one that counts, and the other one has a whole frame
pub both_open : (region : Region) (raw : List (List ℕ)) (spare : Front) (g : ℕ) → found_of region (front_of raw) spare ≡ Active region g → is_open spare ≡ true
    → (is_open (front_of raw) ≡ true) × ((told : Option ℕ) × (spare ≡ Whole told))
both_open region raw Shut g is opens = absurd cc
both_open First [] (Whole (Some h)) g is opens = absurd cc
both_open First [] (Whole None) g is opens = absurd cc
both_open First [] Broken g is opens = absurd cc
both_open First (first ∷ more) (Whole told) g is opens = (refl, (told, refl))
both_open First (first ∷ more) Broken g is opens = absurd cc
both_open Second [] (Whole told) g is opens = absurd cc
both_open Second [] Broken g is opens = absurd cc
both_open Second (first ∷ more) (Whole told) g is opens = (refl, (told, refl))
both_open Second (first ∷ more) Broken g is opens = absurd cc

pub other_twice : (region : Region) → other (other region) ≡ region
other_twice First = refl
other_twice Second = refl
