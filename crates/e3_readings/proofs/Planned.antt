-- What the items of a front and one more item give.
use Rattle.std.proofs.Common.{◌≡◌, ◌<◌, ℕ, suc, List, [], ◌∷◌, ◌++◌, Option, length, take, get_or, ap, sym, ◌∙◌}
use Rattle.std.specs.Prelude.{filter_map}
use Rattle.std.proofs.Math.Seq.{take-suc}
use Rattle.std.proofs.lemmas.List.Elements.{filter_map-append}

pub planned_next : {X Y : Type 0} (f : X → Option Y) (xs : List X) (i : ℕ) (x : X) → i < length xs → x ≡ get_or xs i x →
    filter_map f (take (suc i) xs) ≡ filter_map f (take i xs) ++ filter_map f (x ∷ [])
planned_next f xs i x low is =
    ap (filter_map f) (take-suc xs i x low ∙ ap (λ y. take i xs ++ y ∷ []) (sym is)) ∙ filter_map-append f (take i xs) (x ∷ [])
