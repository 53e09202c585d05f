-- the rule over what stands on the name
use Rattle.std.proofs.Common.{◌≡◌, ap, ◌∙◌, List}
use Rattle.std.proofs.lemmas.Result.{IfOk-weaker}
use Rattle.e3_types.specs.declared.locks.Lock.{Lock}
use Rattle.e3_types.specs.declared.records.Record.{Record}
use Rattle.e3_types.specs.declared.transactions.Key.{Key}
use Rattle.e3_types.specs.Locks.{lock_grant}
use Rattle.e3_world.specs.Logs.{key_of}
use Rattle.e3_world.specs.Making.{log_now}
use Rattle.e3_world.specs.Operations.{holders}
use Rattle.e3_readings.specs.Requests.{lock_for}
use Rattle.e3_places.specs.declared.places.Place.{Place}
use Rattle.e3_places.specs.Keeping.{place_at}
use Rattle.e3_places.specs.Standing.{held_with, wanted_with}
use Rattle.e3_places.proofs.Finding.{read_holders, read_queue}
use Rattle.e3_places.proofs.reading.lock.Goals as goal

pub returns : goal.returns
returns g c =
    let key : Key = key_of c.args.q.now.op in
    let names = c.args.places.now.names.entries in
    let records : List Record = c.as_slice.result.now in
    let place : c.place_or-place.result.now ≡ place_at names key.name =
    c.place_or-place.ensures ∙ ap (λ (k : Key). place_at names k.name) c.key_of.ensures in
    let held =
    ap (λ (p : Place). held_with key.name records p.claims) place
    ∙ read_holders g.a c.args.places.now key.name c.args.made.now records c.requires.0 c.requires.1 c.as_slice.ensures in
    let queued =
    ap (λ (p : Place). wanted_with records p.claims) place
    ∙ read_queue g.a c.args.places.now key.name c.args.made.now records c.requires.0 c.as_slice.ensures in
    IfOk-weaker c.lock_by-grant.result _ _ (λ grant is.
    is
    ∙ ap (λ (l : List Lock). lock_grant (lock_for c.args.q.now) l (wanted_with records c.place_or-place.result.now.claims)) held
    ∙ ap (λ (l : List Lock). lock_grant (lock_for c.args.q.now) (holders g.a.site key.name (log_now g.a c.args.made.now) g.a.life.steps) l) queued)
    c.lock_by-grant.ensures
