-- The sites that have not come yet.
use Rattle.std.specs.Prelude.{not, ℕ, List, filter}
use Rattle.e3_types.specs.Sets.{has_site}

-- those of these sites that are not among those that came
abbrev pub missing : List ℕ → List ℕ → List ℕ
missing all came = filter (λ site. not (has_site came site)) all
