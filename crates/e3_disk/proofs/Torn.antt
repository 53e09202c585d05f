-- What a torn write leaves on both sides of its range.
use Rattle.std.proofs.Common.{◌≡◌, ℕ, ◌+◌, ◌-◌, ◌<◌, ◌≤◌, List, length, take, drop, sym, ◌∙◌, arith, length-take, length-drop}
use Rattle.std.proofs.lemmas.List.{get_or-take, get_or-drop, ext_get_or}
use Rattle.e3_disk.specs.Images.{Torn}

pub torn_front : (p n : ℕ) (old c : List ℕ) → p ≤ length old → Torn p n old c → take p c ≡ take p old
torn_front p n old c le t =
    let lc : length (take p c) ≡ p = omega (arith, length-take p c, t.no_shorter) in
    let lo : length (take p old) ≡ p = omega (arith, length-take p old) in
    ext_get_or 0 (take p c) (take p old) (omega arith) (λ i lt.
    let low : i < p = omega arith in
    get_or-take p c i 0 low ∙ t.before i (omega arith) low ∙ sym (get_or-take p old i 0 low))

pub torn_back : (p n : ℕ) (old c : List ℕ) → p + n ≤ length old → Torn p n old c → drop (p + n) c ≡ drop (p + n) old
torn_back p n old c le t =
    let lc : length (drop (p + n) c) ≡ length old - (p + n) = omega (arith, length-drop (p + n) c, t.no_shorter, t.no_longer) in
    let lo : length (drop (p + n) old) ≡ length old - (p + n) = length-drop (p + n) old in
    ext_get_or 0 (drop (p + n) c) (drop (p + n) old) (omega arith) (λ i lt.
    get_or-drop (p + n) c i 0 ∙ t.behind (p + n + i) (omega arith) (omega arith) ∙ sym (get_or-drop (p + n) old i 0))
