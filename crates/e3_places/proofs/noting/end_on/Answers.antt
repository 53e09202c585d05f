use Rattle.std.specs.Prelude.{Option, unwrap_or}
use Rattle.std.proofs.Common.{rules, refl, ap, ◌∙◌}
use Rattle.std.proofs.lemmas.Result.{on_ok_weaker}
use Rattle.e3_types.specs.Same.{same_numbers}
use Rattle.e3_types.specs.declared.transactions.Key.{Key}
use Rattle.e3_places.specs.declared.places.Place.{Place}
use Rattle.e3_places.specs.Keeping.{at_name, bare, place_at}
use Rattle.e3_places.specs.Noting.{ended}
use Rattle.e3_places.proofs.Logged.{end_put}
use Rattle.e3_places.proofs.Putting.{names_turned}
use Rattle.e3_places.proofs.Turning.{put_at}
use Rattle.e3_places.proofs.noting.end_on.Goals as goal

pub returns-in-Some : goal.returns-in-Some
returns-in-Some c =
    let m = c.args.names.now.entries in
    let r = c.args.r.now in
    let name = c.key_of.result.now.name in
    let w = c.end_place.new.place in
    let n = (c.get_mut.follows.lender w).entries in
    end_put r m m n name c.args.a.now w (ap (λ (k : Key). k.name) c.key_of.ensures)
    (c.end_place.ensures ∙ ap (λ (o : Option Place). ended r (unwrap_or o bare)) c.in-Some.ensures.value)
    (λ q e. refl) (put_at at_name same_numbers bare m n name w (names_turned name) ((c.get_mut.follows.holds w).3 (search rules)).0)

pub returns-in-None : goal.returns-in-None
returns-in-None c =
    let r = c.args.r.now in
    on_ok_weaker c.put_place.result
    (λ put. end_put r c.args.names.now.entries c.get_mut.follows.lender-at-none.entries c.put_place.new.names.entries _ c.args.a.now c.ended.result (ap (λ (k : Key). k.name) c.key_of.ensures)
    (c.ended.ensures ∙ ap (ended r) c.bare.ensures ∙ ap (λ (o : Option Place). ended r (unwrap_or o bare)) c.in-None.ensures.value)
    (λ q e. ap (λ (x : _). place_at x.entries q) c.get_mut.follows.holds-at-none) put)
    c.put_place.ensures
