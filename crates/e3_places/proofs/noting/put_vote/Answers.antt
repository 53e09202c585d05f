use Rattle.std.specs.Prelude.{Option, unwrap_or}
use Rattle.std.proofs.Common.{rules, refl, ◌++◌, ◌∷◌, [], ap, ◌∙◌, List}
use Rattle.std.proofs.lemmas.Result.{on_ok_weaker}
use Rattle.e3_types.specs.Same.{same_numbers}
use Rattle.e3_types.specs.declared.transactions.Key.{Key}
use Rattle.e3_world.specs.declared.lives.Asked.{Asked}
use Rattle.e3_places.specs.declared.places.Place.{Place}
use Rattle.e3_places.specs.Keeping.{at_name, bare, place_at}
use Rattle.e3_places.specs.Noting.{cast_more}
use Rattle.e3_places.proofs.Logged.{vote_put}
use Rattle.e3_places.proofs.Putting.{names_turned}
use Rattle.e3_places.proofs.Turning.{put_at}
use Rattle.e3_places.proofs.noting.put_vote.Goals as goal

pub returns-in-Some : goal.returns-in-Some
returns-in-Some c =
    let m = c.args.names.now.entries in
    let name = c.key_of.result.now.name in
    let was = c.in-Some.place.now in
    let w : Place = record was { claims = record was.claims { votes = c.push.new.self } } in
    let n = (c.get_mut.follows.lender w).entries in
    on_ok_weaker c.push.result
    (λ more. vote_put m m n name c.args.a.now w (ap (λ (k : Key). k.name) c.key_of.ensures)
    (ap (λ (l : List Asked). record was { claims = record was.claims { votes = l } }) (more ∙ ap (λ (x : Asked). was.claims.votes ++ x ∷ []) c.copy_asked.ensures)
    ∙ ap (λ (o : Option Place). record (unwrap_or o bare) { claims = cast_more (unwrap_or o bare).claims c.args.a.now }) c.in-Some.ensures.value)
    (λ q e. refl) (put_at at_name same_numbers bare m n name w (names_turned name) ((c.get_mut.follows.holds w).3 (search rules)).0))
    c.push.ensures.ok

pub returns-in-None : goal.returns-in-None
returns-in-None c =
    let a = c.args.a.now in
    on_ok_weaker c.put_voted.result
    (λ put. vote_put c.args.names.now.entries c.get_mut.follows.lender-at-none.entries c.put_voted.new.names.entries c.key_of.result.now.name a (record bare { claims = cast_more bare.claims a })
    (ap (λ (k : Key). k.name) c.key_of.ensures)
    (ap (λ (o : Option Place). record (unwrap_or o bare) { claims = cast_more (unwrap_or o bare).claims a }) c.in-None.ensures.value)
    (λ q e. ap (λ (x : _). place_at x.entries q) c.get_mut.follows.holds-at-none) put)
    c.put_voted.ensures
