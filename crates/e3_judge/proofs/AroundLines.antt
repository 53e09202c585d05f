-- A history around its last line, one entry further.
use Rattle.std.proofs.Common.{◌≡◌, ◌≤◌, ◌<◌, ℕ, suc, Bool, true, false, List, [], ◌∷◌, ◌++◌, refl, ap, sym, arith, ◌∙◌, length, take, drop, get_or, if◌then◌else◌}
use Rattle.std.proofs.Math.Seq.{take-suc}
use Rattle.std.proofs.Math.ListN.{drop_of_length-le}
use Rattle.std.proofs.lemmas.Grind.{common_steps}
use Rattle.std.proofs.lemmas.List.{take-append-le, take-append-drop, drop-append-le}
use Rattle.e3_types.specs.declared.entries.Entry.{Entry}
use Rattle.e3_world.specs.Items.{AroundLine, around_by, around_line}
use Rattle.e3_world.specs.Packets.{is_line}
use Rattle.e3_world.proofs.Readings.{split_push}

length_front : {X : Type 0} (i : ℕ) (h : List X) → i ≤ length h → length (take i h) ≡ i
length_front i h few = grind (arith, common_steps, few)

front_of_front : {X : Type 0} (end i : ℕ) (h : List X) → end ≤ i → i ≤ length h → take end (take i h) ≡ take end h
front_of_front end i h low few =
    sym (take-append-le end (take i h) (drop i h) (omega (arith, length_front i h few, low)))
    ∙ ap (take end) (take-append-drop i h)

joined : {X : Type 0} (end i : ℕ) (h : List X) → end ≤ i → i ≤ length h → take end h ++ drop end (take i h) ≡ take i h
joined end i h low few =
    ap (λ l. l ++ drop end (take i h)) (sym (front_of_front end i h low few)) ∙ take-append-drop end (take i h)

-- a history in two: so many entries, and those behind them up to another place
abbrev pub split_at : ℕ → ℕ → List Entry → AroundLine
split_at end i h = record { to = take end h; since = drop end (take i h) }

abbrev pub next_end : Bool → ℕ → ℕ → ℕ
next_end b end i = if b then suc i else end

nothing_behind : (i : ℕ) (h : List Entry) → i ≤ length h → drop i (take i h) ≡ []
nothing_behind i h few = drop_of_length-le (take i h) (let l : length (take i h) ≡ i = length_front i h few in omega (arith, l))

by_kind : (h : List Entry) (end i : ℕ) (x : Entry) → end ≤ i → i < length h → take (suc i) h ≡ take i h ++ x ∷ [] → (b : Bool) → is_line x ≡ b →
    around_by (split_at end i h) x ≡ split_at (next_end b end i) (suc i) h
by_kind h end i x low few one true is =
    let all : take end h ++ drop end (take i h) ≡ take i h = joined end i h low (omega (arith, few)) in
    rw (is, all, sym one, nothing_behind (suc i) h (omega (arith, few))) refl
by_kind h end i x low few one false is =
    let more : drop end (take i h ++ x ∷ []) ≡ drop end (take i h) ++ x ∷ [] =
    drop-append-le end (take i h) (x ∷ []) (let l : length (take i h) ≡ i = length_front i h (omega (arith, few)) in omega (arith, l, low)) in
    rw (is, one, more) refl

pub split_next : (h : List Entry) (end i : ℕ) (x : Entry) → end ≤ i → i < length h → x ≡ get_or h i x →
    around_line (take i h) ≡ split_at end i h → around_line (take (suc i) h) ≡ split_at (next_end (is_line x) end i) (suc i) h
split_next h end i x low few is was =
    let one : take (suc i) h ≡ take i h ++ x ∷ [] = take-suc h i x few ∙ ap (λ y. take i h ++ y ∷ []) (sym is) in
    ap around_line one ∙ split_push (take i h) x ∙ ap (λ w. around_by w x) was
    ∙ by_kind h end i x low few one (is_line x) refl

pub end_within : (b : Bool) (end i : ℕ) → end ≤ i → next_end b end i ≤ suc i
end_within true end i low = omega arith
end_within false end i low = omega (arith, low)
