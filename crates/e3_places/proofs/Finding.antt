-- What a step reads of a name by tables that stand.
use Rattle.std.specs.Prelude.{◌≡◌, ℕ, true, List, Result, Ok, Err, IfOk}
use Rattle.std.proofs.Common.{ap, sym, ◌∙◌}
use Rattle.e3_types.specs.declared.list.NoMemory.{NoMemory}
use Rattle.e3_types.specs.declared.records.Record.{Record}
use Rattle.e3_world.specs.declared.lives.At.{At}
use Rattle.e3_world.specs.declared.lives.Made.{Made}
use Rattle.e3_world.specs.Logs.{table_of, row_value}
use Rattle.e3_world.specs.Making.{log_now}
use Rattle.e3_world.specs.Operations.{holders, queue, waiting}
use Rattle.e3_places.specs.declared.places.Place.{Place}
use Rattle.e3_places.specs.declared.places.Places.{Places}
use Rattle.e3_places.specs.Standing.{follow, held_with, wanted_with, row_by}
use Rattle.e3_places.specs.Keeping.{PlacesStand, place_at}
use Rattle.e3_places.proofs.Locking.{holders_are, wanted_is}
use Rattle.e3_places.proofs.Rowing.{row_more}

pub ok_is : {X : Type 0} (r : Result X NoMemory) (x y : X) → x ≡ y → IfOk r (λ out. out ≡ x) → IfOk r (λ out. out ≡ y)
ok_is (Ok out) x y e h = h ∙ e
ok_is (Err f) x y e h = tt

pub read_holders : (a : At) (places : Places) (name : List ℕ) (made : Made) (rs : List Record) → PlacesStand a.site places a.life → follow a.life.log made.records ≡ true → rs ≡ made.records
    → held_with name rs (place_at places.names.entries name).claims ≡ holders a.site name (log_now a made) a.life.steps
read_holders a places name made rs stand h is =
    ap (λ (l : List Record). held_with name l (place_at places.names.entries name).claims) is
    ∙ ap (λ (p : Place). held_with name made.records p.claims) (stand.names_stand name) ∙ sym (holders_are a.site name a.life made.records h)

pub read_queue : (a : At) (places : Places) (name : List ℕ) (made : Made) (rs : List Record) → PlacesStand a.site places a.life → rs ≡ made.records
    → wanted_with rs (place_at places.names.entries name).claims ≡ queue name (waiting a.site (log_now a made) a.life.steps)
read_queue a places name made rs stand is =
    ap (λ (l : List Record). wanted_with l (place_at places.names.entries name).claims) is
    ∙ ap (λ (p : Place). wanted_with made.records p.claims) (stand.names_stand name) ∙ sym (wanted_is a.site name a.life made.records)

pub read_row : (a : At) (places : Places) (name : List ℕ) (made : Made) (rs : List Record) → PlacesStand a.site places a.life → follow a.life.log made.records ≡ true → rs ≡ made.records
    → row_by name (place_at places.names.entries name) rs ≡ row_value name (table_of (log_now a made))
read_row a places name made rs stand h is =
    ap (λ (l : List Record). row_by name (place_at places.names.entries name) l) is
    ∙ ap (λ (p : Place). row_by name p made.records) (stand.names_stand name) ∙ sym (row_more name a.life.log made.records h)
