use Rattle.std.proofs.Common.{◌≡◌, if◌then◌else◌, ap, ◌∙◌, List}
use Rattle.std.specs.List.{list_any}
use Rattle.std.proofs.lemmas.Result.{on_ok_weaker}
use Rattle.e3_types.specs.declared.records.Record.{Record}
use Rattle.e3_types.specs.declared.records.Record.TheVariants as log
use Rattle.e3_world.specs.declared.lives.Asked.{Asked}
use Rattle.e3_places.specs.declared.places.Claims.{Claims}
use Rattle.e3_places.specs.Keeping.{claims_at, place_at}
use Rattle.e3_places.specs.Noting.{ended, left_by}
use Rattle.e3_places.specs.Standing.{is_on}
use Rattle.e3_places.proofs.Logged.{claims_put, end_stands}
use Rattle.e3_places.proofs.noting.end.Goals as goal

pub returns-in-Ok : goal.returns-in-Ok
returns-in-Ok c =
    let r : Record = log.Decision c.args.t.now c.args._dir in
    let old = c.args.places.now in
    let its : c.in_ok-claims.claims ≡ claims_at old.txns.entries c.txn_id-key.result = c.in_ok-claims.ensures.claims in
    on_ok_weaker c.put_claims.result
    (λ put. end_stands old (record { names = c.end_each.new.names; txns = c.put_claims.new.txns }) c.args.t.now c.args._dir
    (λ n. c.in-Ok.ensures n
    ∙ ap (λ (x : Record). if list_any (is_on n) c.as_slice.result.now then ended x (place_at old.names.entries n) else place_at old.names.entries n) c.requires
    ∙ ap (λ (l : List Asked). if list_any (is_on n) l then ended r (place_at old.names.entries n) else place_at old.names.entries n)
    (c.as_slice.ensures ∙ ap (λ (x : Claims). x.votes) (its ∙ ap (claims_at old.txns.entries) c.txn_id-key.ensures)))
    (claims_put (left_by r) old.txns.entries c.take_claims.new.txns.entries c.put_claims.new.txns.entries c.args.t.now c.txn_id-key.result c.left_by.result c.txn_id-key.ensures
    (c.left_by.ensures ∙ ap (λ (x : Record). left_by x c.in_ok-claims.claims) c.requires ∙ ap (left_by r) its) c.in_ok-claims.ensures.rest put))
    c.put_claims.ensures
