-- A site made no more steps since it rose than its history has entries; while it is up, fewer, since its rise is one of these.
use Rattle.std.specs.Prelude.{◌≡◌, ◌==◌, ◌≤◌, ◌<◌, ◌+◌, ◌++◌, ◌∷◌, [], ℕ, suc, Bool, true, false, List, Option, Some, None, length, fold}
use Rattle.std.proofs.Common.{arith, ap, refl, subst, sym, ◌∙◌}
use Rattle.std.proofs.lemmas.Bool.{true≢false}
use Rattle.std.proofs.lemmas.Grind.{common_steps}
use Rattle.std.proofs.lemmas.List.Sums.{fold-append, count_by-le-length, length-filter}
use Rattle.e3_types.specs.declared.entries.Act.{Act}
use Rattle.e3_types.specs.declared.entries.Act.TheVariants as act
use Rattle.e3_types.specs.declared.entries.Entry.{Entry}
use Rattle.e3_types.specs.declared.records.Record.{Record}
use Rattle.e3_types.specs.declared.scenarios.Scenario.{Scenario}
use Rattle.e3_world.specs.declared.lives.Incarnation.{Incarnation}
use Rattle.e3_world.specs.Items.{is_up_at}
use Rattle.e3_world.specs.Lives.{incarnation_by, incarnation_of}
use Rattle.e3_world.specs.Moves.{Move, Past, Rose, Tail, kept_moves, moves_of, own_entries, past_by}
use Rattle.e3_world.specs.Progress.{up_behind}

-- so many steps since the rise
abbrev since_in : List Move → ℕ
since_in moves = length (incarnation_of moves).since

since_on : (moves more : List Move) → since_in (moves ++ more) ≡ length (fold incarnation_by (incarnation_of moves) more).since
since_on moves more = ap (λ (i : Incarnation). length i.since) (fold-append incarnation_by (record { rose = []; since = [] }) moves more)

-- what a site's own entries come to has no more steps since the rise than these; fewer, where the site is up
record AreFew (w : Past) (up : Bool) (n : ℕ) : Type 0 where
  all : since_in w.moves ≤ n
  of_up : up ≡ true → since_in w.moves < n

-- moves that are no steps keep none
kept_are_none : (site : ℕ) (i : Incarnation) (kept : Bool) (tail : Option Tail) → length (fold incarnation_by i (kept_moves site kept tail)).since ≤ length i.since
kept_are_none site i true (Some tail) = omega arith
kept_are_none site i true None = omega arith
kept_are_none site i false tail = omega arith

longer : {X : Type 0} (xs : List X) (x : X) → length (xs ++ x ∷ []) ≡ length xs + 1
longer xs x = grind (arith, common_steps)

module _ (sc : Scenario) (site : ℕ) (w : Past) (up : Bool) (n : ℕ) (was : AreFew w up n) where
  moved : (more : List Move) (b : Bool) (tail : Option Tail) (k : ℕ) → length (fold incarnation_by (incarnation_of w.moves) more).since ≡ k → k ≤ suc n → (b ≡ true → k < suc n)
      → AreFew (record { moves = w.moves ++ more; tail = tail }) b (suc n)
  moved more b tail k is all of_up = record {
    all = subst (λ (m : ℕ). m ≤ suc n) (sym (since_on w.moves more ∙ is)) all;
    of_up = λ now. subst (λ (m : ℕ). m < suc n) (sym (since_on w.moves more ∙ is)) (of_up now);
  }

  -- nothing moved, and the site is not up where it was not
  stayed : (b : Bool) (tail : Option Tail) → (b ≡ true → up ≡ true) → AreFew (record { moves = w.moves ++ []; tail = tail }) b (suc n)
  stayed b tail so =
      let all = was.all in
      moved [] b tail (since_in w.moves) refl (omega (arith, all)) (λ now. let few = was.of_up (so now) in omega (arith, few))

  one_more : (e : Entry) → AreFew (past_by sc site w e) (up_behind up e.act) (suc n)
  one_more e = by e.act
    where
      silent : (kept : Bool) → length (fold incarnation_by (incarnation_of w.moves) (kept_moves site kept w.tail)).since ≤ since_in w.moves
      silent kept = kept_are_none site (incarnation_of w.moves) kept w.tail

      risen : (moves : List Move) (m : Move) (inc : ℕ) (rs : List Record) → m.did ≡ Rose inc rs → length (fold incarnation_by (incarnation_of w.moves) (moves ++ m ∷ [])).since ≡ 0
      risen moves m inc rs is =
          ap (λ (i : Incarnation). length i.since) (fold-append incarnation_by (incarnation_of w.moves) moves (m ∷ [])) ∙ rw is refl

      by : (a : Act) → AreFew (past_by sc site w (record e { act = a })) (up_behind up a) (suc n)
      by (act.Step i records outs events) =
          let all = was.all in
          moved _ up _ (since_in w.moves + 1) (longer (incarnation_of w.moves).since _) (omega (arith, all)) (λ now. let few = was.of_up now in omega (arith, few))
      by (act.Rise kept inc) =
          moved _ true _ 0 (risen (kept_moves site kept w.tail) _ inc _ refl) (omega arith) (λ now. omega arith)
      by (act.RiseFall kept inc why) =
          let all = was.all in
          let few = silent kept in
          moved _ false _ _ refl (omega (arith, all, few)) (λ (now : false ≡ true). absurd (true≢false (sym now)))
      by (act.Fall inputs records why) = stayed false _ (λ (now : false ≡ true). absurd (true≢false (sym now)))
      by act.Miss = stayed false _ (λ (now : false ≡ true). absurd (true≢false (sym now)))
      by act.Cut = stayed false _ (λ (now : false ≡ true). absurd (true≢false (sym now)))
      by _ = stayed up _ (λ now. now)

all_more : (sc : Scenario) (site : ℕ) (w : Past) (up : Bool) (n : ℕ) (mine : List Entry) → AreFew w up n
    → AreFew (fold (past_by sc site) w mine) (fold (λ was e. up_behind was e.act) up mine) (n + length mine)
all_more sc site w up n [] was = subst (AreFew w up) (omega arith) was
all_more sc site w up n (e ∷ more) was =
    subst (AreFew (fold (past_by sc site) w (e ∷ more)) (fold (λ was e. up_behind was e.act) up (e ∷ more))) (omega arith)
    (all_more sc site (past_by sc site w e) (up_behind up e.act) (suc n) more (one_more sc site w up n was e))

in_all : (sc : Scenario) (site : ℕ) (mine : List Entry) → AreFew (fold (past_by sc site) (record { moves = []; tail = None }) mine) (fold (λ was e. up_behind was e.act) false mine) (0 + length mine)
in_all sc site mine =
    all_more sc site (record { moves = []; tail = None }) false 0 mine (record { all = omega arith; of_up = λ (now : false ≡ true). absurd (true≢false (sym now)) })

own_are_some : (site : ℕ) (history : List Entry) → length (own_entries site history) ≤ length history
own_are_some site history =
    let long = length-filter (λ (e : Entry). e.owner == site) history in
    let some = count_by-le-length (λ (e : Entry). e.owner == site) history in
    omega (arith, long, some)

pub steps_are_few : (sc : Scenario) (history : List Entry) (site : ℕ) → length (incarnation_of (moves_of sc history site)).since ≤ length history
steps_are_few sc history site =
    let few = (in_all sc site (own_entries site history)).all in
    let own = own_are_some site history in
    omega (arith, few, own)

pub steps_are_fewer : (sc : Scenario) (history : List Entry) (site : ℕ) → is_up_at history site ≡ true → length (incarnation_of (moves_of sc history site)).since < length history
steps_are_fewer sc history site up =
    let few = (in_all sc site (own_entries site history)).of_up up in
    let own = own_are_some site history in
    omega (arith, few, own)
