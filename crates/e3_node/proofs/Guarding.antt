-- The entries of a site, and that they are allowed.
use Rattle.std.proofs.Common.{◌≡◌, ◌≢◌, ◌≤◌, ◌∷◌, [], ℕ, zero, suc, Bool, true, List, length, map, refl, sym, subst, ap, ◌∙◌, append-nil, arith}
use Rattle.e3_laws.specs.local.Least.{IsLeastTo}
use Rattle.e3_laws.proofs.local.Least.{first_is_least}
use Rattle.e3_play.specs.Entering.{IsFirst, fall_of}
use Rattle.e3_types.specs.declared.entries.Act.TheVariants.{Step, Rise, RiseFall, Miss, Cut}
use Rattle.e3_types.specs.declared.entries.Entry.{Entry}
use Rattle.e3_types.specs.declared.entries.Input.{Input}
use Rattle.e3_types.specs.declared.entries.Input.TheVariants as input
use Rattle.e3_types.specs.declared.entries.Told.{Told}
use Rattle.e3_types.specs.declared.entries.Why.{Why}
use Rattle.e3_types.specs.declared.messages.Packet.{Packet}
use Rattle.e3_types.specs.declared.records.Record.{Record}
use Rattle.e3_types.specs.declared.scenarios.Scenario.{Scenario}
use Rattle.e3_wire.specs.Wires.{TakesLeast}
use Rattle.e3_world.specs.Items.{is_up_at}
use Rattle.e3_world.specs.Legal.{Guard, IsCut, IsDue, IsRise, IsRising, entry_of, made_by, numbered}
use Rattle.e3_world.specs.Moves.{unnumbered}
use Rattle.e3_world.specs.Packets.{sent}

-- numbers do not matter to what is numbered
numbered_unnumbered : (n : ℕ) (ps : List Packet) → numbered n (map unnumbered ps) ≡ numbered n ps
numbered_unnumbered n [] = refl
numbered_unnumbered n (p ∷ ps) = ap (λ (rest : List Packet). record p { number = n } ∷ rest) (numbered_unnumbered (suc n) ps)

-- the entry of a planned step
pub step_entry : (sc : Scenario) (h : List Entry) (site : ℕ) (i : Input) (records : List Record) (outs : List Packet) (told : List Told) →
    records ≡ (made_by sc h site i).records → outs ≡ map unnumbered (made_by sc h site i).outs → told ≡ (made_by sc h site i).told →
    record { owner = site; act = Step i records (numbered (suc (length (sent h))) outs) told } ≡ entry_of sc h site i
step_entry sc h site i records outs told rs os ts =
    let n : ℕ = suc (length (sent h)) in
    let made = made_by sc h site i in
    ap (λ (l : List Record). record { owner = site; act = Step i l (numbered n outs) told }) rs
    ∙ ap (λ (l : List Packet). record { owner = site; act = Step i made.records l told }) (ap (numbered n) os ∙ numbered_unnumbered n made.outs)
    ∙ ap (λ (l : List Told). record { owner = site; act = Step i made.records (numbered n made.outs) l }) ts

-- the guard of a fall over one input
pub fall_guard : (sc : Scenario) (h : List Entry) (site : ℕ) (i : Input) (why : Why) → 1 ≤ site → is_up_at h site ≡ true → IsDue sc h site i →
    (made_by sc h site i).records ≢ [] → Guard sc h (fall_of sc h site i why)
fall_guard sc h zero i why one up due some = absurd (omega (arith, one))
fall_guard sc h (suc s) i why one up due some = record { up = up; due = (due, tt); some = some; made = sym (append-nil (made_by sc h (suc s) i).records) }

-- the guards of a rise, of a failed one and of a cut
pub rise_guard : (sc : Scenario) (h : List Entry) (site : ℕ) (kept : Bool) (inc : ℕ) → 1 ≤ site → IsRise sc h site kept inc →
    Guard sc h (record { owner = site; act = Rise kept inc })
rise_guard sc h zero kept inc one is = absurd (omega (arith, one))
rise_guard sc h (suc s) kept inc one is = is

pub rise_fall_guard : (sc : Scenario) (h : List Entry) (site : ℕ) (kept : Bool) (inc : ℕ) (why : Why) → 1 ≤ site → IsRise sc h site kept inc →
    Guard sc h (record { owner = site; act = RiseFall kept inc why })
rise_fall_guard sc h zero kept inc why one is = absurd (omega (arith, one))
rise_fall_guard sc h (suc s) kept inc why one is = is

pub cut_guard : (sc : Scenario) (h : List Entry) (site : ℕ) → 1 ≤ site → IsCut sc h site → Guard sc h (record { owner = site; act = Cut })
cut_guard sc h zero one is = absurd (omega (arith, one))
cut_guard sc h (suc s) one is = is

pub miss_guard : (sc : Scenario) (h : List Entry) (site : ℕ) → 1 ≤ site → IsRising sc h site → Guard sc h (record { owner = site; act = Miss })
miss_guard sc h zero one turn = absurd (omega (arith, one))
miss_guard sc h (suc s) one turn = turn

-- the first of all pending packets is the least to its receiver
pub first_takes_least : (sc : Scenario) (h : List Entry) (site : ℕ) (i : Input) → IsDue sc h site i → IsFirst sc h i → TakesLeast sc h site i
first_takes_least sc h site (input.Deliver packet) due first =
    let P : ℕ → Type 0 = λ n. IsLeastTo sc h n packet in
    subst P due.to (first_is_least sc h packet first)
first_takes_least sc h site (input.Begin sites) due first = tt
first_takes_least sc h site (input.Do t op) due first = tt
first_takes_least sc h site (input.Commit t) due first = tt
first_takes_least sc h site (input.Cancel t) due first = tt
first_takes_least sc h site (input.Expire t) due first = tt
first_takes_least sc h site (input.Elect t group) due first = tt
