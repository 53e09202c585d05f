-- Which owners a pass has, and what it has seen, while passes are dealt and gathered.
use Rattle.std.proofs.Common.{◌≡◌, ◌≢◌, ◌⊎◌, inl, inr, ℕ, ◌+◌, ◌<◌, ◌≤◌, List, [], ◌∷◌, ◌++◌, length, refl, sym, ap, ◌∙◌, subst, arith, eqb, cond, Bool, true, false, append-nil, append_assoc}
use Rattle.std.specs.Prelude.{MatchBool, ltb}
use Rattle.std.proofs.lemmas.Bool.{eqb-true}
use Rattle.std.proofs.lemmas.Bool.Decides.{eqb_tells}
use Rattle.e3_fleet.specs.crew.Workers.{AddedByOthers}
use Rattle.e3_turn.specs.Chronicles.{ExtendsByOthers, LongerExtends, count_of, longer, without}
use Rattle.e3_turn.proofs.Totals.{count_of-append, count_of-without, count_of_self, length-without}
use Rattle.e3_wire.specs.declared.marks.Mark.{Mark}
use Rattle.e3_wire.specs.Marks.{AreForeign, belongs}
use Rattle.e3_wire.specs.Wires.{IsPlayed}
use Rattle.e3_wire.proofs.Staying.{foreign_all}

count_of_other : (p o : ℕ) → p ≢ o → count_of o (p ∷ []) ≡ 0
count_of_other p o apart = go (eqb p o) refl
  where
    go : (b : Bool) → eqb p o ≡ b → cond {A = ℕ} b 1 0 + 0 ≡ 0
    go true e = absurd (apart (eqb-true p o e))
    go false e = refl

some_long : (a : ℕ) (l : List ℕ) → 0 < count_of a l → 0 < length l
some_long a [] has = has
some_long a (x ∷ l) has = omega arith

-- a pass of two owners may give one away
pub two_owners : (a b : ℕ) (l : List ℕ) → a ≢ b → 0 < count_of a l → 0 < count_of b l → 1 < length l
two_owners a b l apart has_a has_b =
    let other = count_of_other b a (λ same. apart (sym same)) in
    let left = count_of-without a b l has_b in
    let some = some_long a (without b l) (omega (arith, other, left, has_a)) in
    let long = length-without b l has_b in
    omega (arith, some, long)

-- and keeps the other
pub still_owns : (o given : ℕ) (l left : List ℕ) → left ≡ without given l → given ≢ o → 0 < count_of given l → 0 < count_of o l → 0 < count_of o left
still_owns o given l left is apart had has = subst (λ k. 0 < count_of o k) (sym is)
    (let other = count_of_other given o apart in let rest = count_of-without o given l had in omega (arith, other, rest, has))

-- a join brings an owner
pub owns_first : (o : ℕ) (xs ys all : List ℕ) → all ≡ xs ++ ys → 0 < count_of o xs → 0 < count_of o all
owns_first o xs ys all is has = subst (λ k. 0 < count_of o k) (sym is) (let both = count_of-append o xs ys in omega (arith, both, has))

pub owns_second : (o : ℕ) (xs ys all : List ℕ) → all ≡ xs ++ ys → ys ≡ o ∷ [] → 0 < count_of o all
owns_second o xs ys all is one = subst (λ k. 0 < count_of o k) (sym is)
    (let both = count_of-append o xs ys in let has : count_of o ys ≡ 1 = ap (count_of o) one ∙ count_of_self o in omega (arith, both, has))

pub foreign_append : (o : ℕ) (xs ys : List Mark) → AreForeign o xs → AreForeign o ys → AreForeign o (xs ++ ys)
foreign_append o [] ys first second = second
foreign_append o (m ∷ xs) ys first second = (first.0, foreign_append o xs ys first.1 second)

pub added_none : (o : ℕ) (marks : List Mark) → AddedByOthers o marks marks
added_none o marks = ([], sym (append-nil marks), tt)

pub added_on : (o : ℕ) (a b c : List Mark) → AddedByOthers o a b → AddedByOthers o b c → AddedByOthers o a c
added_on o a b c first second =
    (first.0 ++ second.0, second.1 ∙ ap (λ l. l ++ second.0) first.1 ∙ append_assoc a first.0 second.0, foreign_append o first.0 second.0 first.2 second.2)

extended : (last o : ℕ) (owners : List ℕ) (seen chronicle : List Mark) → 0 < count_of o owners → ExtendsByOthers belongs last owners seen chronicle → AddedByOthers o seen chronicle
extended last o owners seen chronicle has grew = (grew.0, grew.1, foreign_all last owners o grew.0 has grew.2)

-- what a join leaves of what either pass had seen
pub joined_first : (last o : ℕ) (vo wo : List ℕ) (vs ws all : List Mark) → all ≡ longer vs ws → LongerExtends belongs last vo vs wo ws → 0 < count_of o vo → AddedByOthers o vs all
joined_first last o vo wo vs ws all is agree has = subst (AddedByOthers o vs) (sym is) (go (ltb (length vs) (length ws)) agree)
  where
    go : (b : Bool) → MatchBool b (ExtendsByOthers belongs last vo vs ws) (ExtendsByOthers belongs last wo ws vs) → AddedByOthers o vs (cond b ws vs)
    go true grew = extended last o vo vs ws has grew
    go false grew = added_none o vs

pub joined_second : (last o : ℕ) (vo wo : List ℕ) (vs ws all : List Mark) → all ≡ longer vs ws → LongerExtends belongs last vo vs wo ws → 0 < count_of o wo → AddedByOthers o ws all
joined_second last o vo wo vs ws all is agree has = subst (AddedByOthers o ws) (sym is) (go (ltb (length vs) (length ws)) agree)
  where
    go : (b : Bool) → MatchBool b (ExtendsByOthers belongs last vo vs ws) (ExtendsByOthers belongs last wo ws vs) → AddedByOthers o ws (cond b ws vs)
    go true grew = added_none o ws
    go false grew = extended last o wo ws vs has grew

pub joined_played : (vs ws all : List Mark) → all ≡ longer vs ws → IsPlayed vs → IsPlayed ws → IsPlayed all
joined_played vs ws all is first second = subst IsPlayed (sym is) (go (ltb (length vs) (length ws)))
  where
    go : (b : Bool) → IsPlayed (cond b ws vs)
    go true = second
    go false = first

-- of the owners that are left, none is the one that is given away
pub apart : (k o given : ℕ) → (o ≡ 0) ⊎ (k + 1 < o) → given ≡ k + 1 → given ≢ o
apart k o given (inl none) is same = omega (arith, none, is, same)
apart k o given (inr more) is same = omega (arith, more, is, same)

pub sooner : (k o : ℕ) → (o ≡ 0) ⊎ (k + 1 < o) → (o ≡ 0) ⊎ (k < o)
sooner k o (inl none) = inl none
sooner k o (inr more) = inr (omega (arith, more))

-- the owners that are joined, with one more
pub owns_more : (k : ℕ) (xs ys all : List ℕ) → all ≡ xs ++ ys → ys ≡ (k + 1) ∷ [] → ((o : ℕ) → o ≤ k → 0 < count_of o xs) → (o : ℕ) → o ≤ k + 1 → 0 < count_of o all
owns_more k xs ys all is one before o low = by (eqb_tells o (k + 1))
  where
    by : ((eqb o (k + 1) ≡ true) × (o ≡ k + 1)) ⊎ ((eqb o (k + 1) ≡ false) × (o ≢ k + 1)) → 0 < count_of o all
    by (inl same) = let P : ℕ → Type 0 = λ p. 0 < count_of p all in subst P (sym same.1) (owns_second (k + 1) xs ys all is one)
    by (inr other) = owns_first o xs ys all is (before o (let apart = other.1 in omega (arith, low, apart)))

-- what was put behind each pass that is joined, with one more
pub each_more : {W : Type 0} (last k : ℕ) (vo wo : List ℕ) (vs ws all : List Mark) (f : ℕ → W → List Mark) → all ≡ longer vs ws → LongerExtends belongs last vo vs wo ws →
    ((o : ℕ) → o ≤ k → 0 < count_of o vo) → wo ≡ (k + 1) ∷ [] → ((i : ℕ) (d : W) → i < k → AddedByOthers (i + 1) (f i d) vs) →
    ((d : W) → ws ≡ f k d) → (i : ℕ) (d : W) → i < k + 1 → AddedByOthers (i + 1) (f i d) all
each_more last k vo wo vs ws all f is agree owns one before now i d low = by (eqb_tells i k)
  where
    has : 0 < count_of (k + 1) wo
    has = subst (λ l. 0 < count_of (k + 1) l) (sym one) (let z = count_of_self (k + 1) in omega (arith, z))

    by : ((eqb i k ≡ true) × (i ≡ k)) ⊎ ((eqb i k ≡ false) × (i ≢ k)) → AddedByOthers (i + 1) (f i d) all
    by (inl same) =
        let P : ℕ → Type 0 = λ j. AddedByOthers (j + 1) (f j d) all in
        let Q : List Mark → Type 0 = λ l. AddedByOthers (k + 1) l all in
        subst P (sym same.1) (subst Q (now d) (joined_second last (k + 1) vo wo vs ws all is agree has))
    by (inr other) =
        let less : i < k = (let apart = other.1 in omega (arith, low, apart)) in
        added_on (i + 1) (f i d) vs all (before i d less) (joined_first last (i + 1) vo wo vs ws all is agree (owns (i + 1) (omega (arith, less))))
