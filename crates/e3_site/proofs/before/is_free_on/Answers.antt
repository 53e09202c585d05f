use Rattle.std.proofs.Common.{ap, sym, not, ◌∙◌}
use Rattle.std.specs.List.{list_any}
use Rattle.e3_types.specs.declared.locks.Mode.{Mode}
use Rattle.e3_types.specs.declared.transactions.Key.{Key}
use Rattle.e3_types.specs.Locks.{opposes}
use Rattle.e3_places.specs.declared.places.Place.{Place}
use Rattle.e3_places.specs.Keeping.{place_at}
use Rattle.e3_readings.specs.Requests.{lock_for}
use Rattle.e3_site.proofs.Freedom.{lock_of, free_votes}
use Rattle.e3_site.proofs.before.is_free_on.Goals as goal

pub returns : goal.returns
returns c = λ site life stand.
    let t = c.args.t.now in
    let o = c.args.o.now in
    let names = c.args.places.now.names.entries in
    ap not (c.is_opposed.ensures
    ∙ ap (λ (m : Mode). list_any (λ a. opposes (record { txn = t; mode = m }) (lock_for a)) (place_at names c.key_of.result.now.name).claims.votes) c.mode_of.ensures
    ∙ ap (λ (k : Key). list_any (λ a. opposes (lock_of t o) (lock_for a)) (place_at names k.name).claims.votes) c.key_of.ensures
    ∙ ap (λ (p : Place). list_any (λ a. opposes (lock_of t o) (lock_for a)) p.claims.votes) (stand.names_stand _))
    ∙ sym (free_votes t life.log o)
