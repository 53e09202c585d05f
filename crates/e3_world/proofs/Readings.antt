-- The readings of one more entry.
use Rattle.std.proofs.Common.{◌≡◌, ◌==◌, ℕ, true, false, List, [], ◌∷◌, ◌++◌, append-nil, ◌∙◌, ap, refl, fold}
use Rattle.std.proofs.lemmas.Grind.{fold-append, flat_map-append}
use Rattle.std.proofs.lemmas.List.Elements.{filter-append}
use Rattle.e3_types.specs.declared.entries.Entry.{Entry}
use Rattle.e3_world.specs.Items.{around_by, around_line, since_line, to_line, inputs_of, taken_at, is_up_at}
use Rattle.e3_world.specs.Moves.{own_entries}
use Rattle.e3_world.specs.Packets.{is_line}
use Rattle.e3_world.specs.Progress.{up_behind}

pub split_push : (h : List Entry) (e : Entry) → around_line (h ++ e ∷ []) ≡ around_by (around_line h) e
split_push h e = fold-append around_by _ h (e ∷ [])

pub since_push : (h : List Entry) (e : Entry) → is_line e ≡ false → since_line (h ++ e ∷ []) ≡ since_line h ++ e ∷ []
since_push h e stays = ap (λ w. w.since) (split_push h e) ∙ rw stays refl

pub to_push : (h : List Entry) (e : Entry) → is_line e ≡ false → to_line (h ++ e ∷ []) ≡ to_line h
to_push h e stays = ap (λ w. w.to) (split_push h e) ∙ rw stays refl

pub own_same : (s : ℕ) (h : List Entry) (e : Entry) → (e.owner == s) ≡ true → own_entries s (h ++ e ∷ []) ≡ own_entries s h ++ e ∷ []
own_same s h e is = rw (filter-append, is) refl

pub own_other : (s : ℕ) (h : List Entry) (e : Entry) → (e.owner == s) ≡ false → own_entries s (h ++ e ∷ []) ≡ own_entries s h
own_other s h e is = rw (filter-append, is) (append-nil (own_entries s h))

pub taken_same : (h : List Entry) (e : Entry) (s : ℕ) → is_line e ≡ false → (e.owner == s) ≡ true →
    taken_at (h ++ e ∷ []) s ≡ taken_at h s ++ inputs_of e.act
taken_same h e s stays is =
    rw (since_push h e stays, own_same s (since_line h) e is, flat_map-append, append-nil (inputs_of e.act)) refl

pub taken_other : (h : List Entry) (e : Entry) (s : ℕ) → is_line e ≡ false → (e.owner == s) ≡ false →
    taken_at (h ++ e ∷ []) s ≡ taken_at h s
taken_other h e s stays is = rw (since_push h e stays, own_other s (since_line h) e is) refl

pub up_same : (h : List Entry) (e : Entry) (s : ℕ) → (e.owner == s) ≡ true → is_up_at (h ++ e ∷ []) s ≡ up_behind (is_up_at h s) e.act
up_same h e s is = ap (fold (λ was e. up_behind was e.act) false) (own_same s h e is) ∙ fold-append _ _ (own_entries s h) (e ∷ [])

pub up_other : (h : List Entry) (e : Entry) (s : ℕ) → (e.owner == s) ≡ false → is_up_at (h ++ e ∷ []) s ≡ is_up_at h s
up_other h e s is = ap (fold (λ was e. up_behind was e.act) false) (own_other s h e is)
