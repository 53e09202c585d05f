-- Entries for want of room, in a history with one more entry.
use Rattle.std.proofs.Common.{◌≡◌, inl, inr, ◌⊎◌, ◌++◌, ◌∷◌, [], ℕ, List, sym, subst}
use Rattle.e3_fleet.specs.Over.{HadNoRoom, HadNoRooms}
use Rattle.e3_fleet.proofs.Arming.{IsBefore, IsLast, at_place}
use Rattle.e3_types.specs.declared.entries.Entry.{Entry}
use Rattle.e3_types.specs.declared.scenarios.Scenario.{Scenario}

pub rooms_empty : (sc : Scenario) (site capacity : ℕ) → HadNoRooms sc [] site capacity
rooms_empty sc site capacity [] after e is own = absurd cc
rooms_empty sc site capacity (b ∷ before) after e is own = absurd cc

-- with one more entry, which tells its numbers where it is one of the site
pub rooms_push : (sc : Scenario) (h : List Entry) (e : Entry) (site capacity : ℕ) → HadNoRooms sc h site capacity →
    (e.owner ≡ site → HadNoRoom sc h site capacity e.act) → HadNoRooms sc (h ++ e ∷ []) site capacity
rooms_push sc h e site capacity was now before after x is own = by (at_place h before after x e is)
  where
    by : IsLast h before after x e ⊎ IsBefore h before after x e → HadNoRoom sc before site capacity x.act
    by (inl k) =
        subst (λ (b : List Entry). HadNoRoom sc b site capacity x.act) (sym k.front)
        (subst (λ (y : Entry). HadNoRoom sc h site capacity y.act) (sym k.this) (now (subst (λ (y : Entry). y.owner ≡ site) k.this own)))
    by (inr k) = was before k.rest x k.parts own
