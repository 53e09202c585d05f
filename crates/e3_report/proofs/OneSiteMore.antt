-- One site more.
use Rattle.std.specs.Prelude.{◌≡◌, ◌++◌, ◌∷◌, [], ◌+◌, ℕ, suc, List}
use Rattle.std.specs.List.{flat_map}
use Rattle.std.proofs.Common.{add-one, append-nil, ap, ◌∙◌}
use Rattle.std.proofs.lemmas.Grind.{flat_map-append}
use Rattle.e3_world.specs.Packets.{sites_to}

-- the texts of the sites up to the next one
pub one_site_more : (text : ℕ → List ℕ) (n : ℕ) → flat_map text (sites_to (n + 1)) ≡ flat_map text (sites_to n) ++ text (n + 1)
one_site_more text n =
    rw add-one (flat_map-append text (sites_to n) (suc n ∷ []) ∙ ap (λ t. flat_map text (sites_to n) ++ t) (append-nil (text (suc n))))
