-- What a site has done, with one more entry of its own.
use Rattle.std.proofs.Common.{◌≡◌, ◌==◌, ◌+◌, ◌++◌, ◌∷◌, [], ℕ, Bool, List, None, length, length-append, refl, sym, ap, ◌∙◌, append_assoc}
use Rattle.std.proofs.lemmas.Grind.{flat_map-append}
use Rattle.e3_node.specs.Bodies.{entries_at, log_with, moves_with}
use Rattle.e3_types.specs.declared.entries.Act.TheVariants.{Rise, RiseFall}
use Rattle.e3_types.specs.declared.entries.Entry.{Entry}
use Rattle.e3_types.specs.declared.entries.Why.{Why}
use Rattle.e3_types.specs.declared.scenarios.Scenario.{Scenario}
use Rattle.e3_world.specs.Moves.{Move, Past, Rose as DidRise, kept_moves, left_by, log_by, log_of, moves_of, open_tail, own_entries, past_by, past_of, recorded, rise_records}
use Rattle.e3_world.proofs.Pushes.{log_push, past_push}
use Rattle.e3_world.proofs.Readings.{own_same}
use Rattle.e3_world.proofs.Turns.{self}

-- the past of a site behind one more entry of its own
pub past_on : (sc : Scenario) (h : List Entry) (site : ℕ) (e : Entry) → e.owner ≡ site →
    past_of sc site (own_entries site (h ++ e ∷ [])) ≡ past_by sc site (past_of sc site (own_entries site h)) e
past_on sc h site e is =
    let mine : own_entries site (h ++ e ∷ []) ≡ own_entries site h ++ e ∷ [] = own_same site h e (ap (λ (n : ℕ). n == site) is ∙ self site) in
    ap (past_of sc site) mine ∙ past_push sc site (own_entries site h) e

-- it has one entry more
pub entries_on : (h : List Entry) (site : ℕ) (e : Entry) → e.owner ≡ site → entries_at (h ++ e ∷ []) site ≡ entries_at h site + 1
entries_on h site e is =
    ap (λ (l : List Entry). length l) (own_same site h e (ap (λ (n : ℕ). n == site) is ∙ self site)) ∙ length-append (own_entries site h) (e ∷ [])

-- the moves of a site that rose: those that it kept, and the rise
pub rise_moves : (sc : Scenario) (h : List Entry) (site : ℕ) (kept : Bool) (inc : ℕ) →
    moves_of sc (h ++ record { owner = site; act = Rise kept inc } ∷ []) site
    ≡ moves_with sc h site kept ++ record { site = site; did = DidRise inc (rise_records sc site inc (log_by (moves_with sc h site kept))) } ∷ []
rise_moves sc h site kept inc =
    let last : List Move = record { site = site; did = DidRise inc (rise_records sc site inc (log_by (moves_with sc h site kept))) } ∷ [] in
    ap (λ (p : Past). p.moves) (past_on sc h site (record { owner = site; act = Rise kept inc }) refl)
    ∙ sym (append_assoc (moves_of sc h site) (kept_moves site kept (open_tail sc h site)) last)

pub rise_tail : (sc : Scenario) (h : List Entry) (site : ℕ) (kept : Bool) (inc : ℕ) →
    open_tail sc (h ++ record { owner = site; act = Rise kept inc } ∷ []) site ≡ None
rise_tail sc h site kept inc = ap (λ (p : Past). p.tail) (past_on sc h site (record { owner = site; act = Rise kept inc }) refl)

-- the moves of a site whose rise failed: those that it kept; the rise is in doubt
pub rise_fall_moves : (sc : Scenario) (h : List Entry) (site : ℕ) (kept : Bool) (inc : ℕ) (why : Why) →
    moves_of sc (h ++ record { owner = site; act = RiseFall kept inc why } ∷ []) site ≡ moves_with sc h site kept
rise_fall_moves sc h site kept inc why =
    ap (λ (p : Past). p.moves) (past_on sc h site (record { owner = site; act = RiseFall kept inc why }) refl)

pub rise_fall_tail : (sc : Scenario) (h : List Entry) (site : ℕ) (kept : Bool) (inc : ℕ) (why : Why) →
    open_tail sc (h ++ record { owner = site; act = RiseFall kept inc why } ∷ []) site
    ≡ left_by why [] (rise_records sc site inc (log_by (moves_with sc h site kept)))
rise_fall_tail sc h site kept inc why =
    ap (λ (p : Past). p.tail) (past_on sc h site (record { owner = site; act = RiseFall kept inc why }) refl)

-- the log behind a rise
pub rise_log : (sc : Scenario) (h : List Entry) (site : ℕ) (kept : Bool) (inc : ℕ) →
    log_of sc (h ++ record { owner = site; act = Rise kept inc } ∷ []) site ≡ log_with sc h site kept ++ rise_records sc site inc (log_with sc h site kept)
rise_log sc h site kept inc =
    ap log_by (rise_moves sc h site kept inc)
    ∙ log_push (moves_with sc h site kept) (record { site = site; did = DidRise inc (rise_records sc site inc (log_with sc h site kept)) })

-- the log with what a rise keeps
pub with_log : (sc : Scenario) (h : List Entry) (site : ℕ) (kept : Bool) →
    log_by (moves_with sc h site kept) ≡ log_of sc h site ++ log_by (kept_moves site kept (open_tail sc h site))
with_log sc h site kept = flat_map-append recorded (moves_of sc h site) (kept_moves site kept (open_tail sc h site))
