-- A move of a site in a sound trail is sound behind the moves of the trail before it.
use Rattle.std.proofs.Common.{◌≡◌, ◌==◌, ◌++◌, ◌∷◌, [], ℕ, Bool, true, false, List, refl, sym, subst, ap, ◌∙◌, append-nil, append_assoc, eqb-true, if◌then◌else◌}
use Rattle.std.proofs.lemmas.Grind.{fold-append}
use Rattle.e3_types.specs.declared.entries.Input.{Input}
use Rattle.e3_types.specs.declared.records.Record.{Record}
use Rattle.e3_types.specs.declared.scenarios.Scenario.{Scenario}
use Rattle.e3_world.specs.Moves.{Move, Did, Stepped, Silent, Rose, moves_at}
use Rattle.e3_world.specs.Sound.{has_risen, IsSoundStep, IsSoundMove, SoundAfter}
use Rattle.e3_laws.specs.steps.Trails.{IsNoStep}

-- a trail in two, at a move
pub record PartAt (site : ℕ) (trail front : List Move) (m : Move) : Type 0 where
  pub first : List Move
  pub last : List Move
  pub whole : trail ≡ first ++ m ∷ last
  pub mine : moves_at site first ≡ front
  pub own : m.site ≡ site

abbrev head_or : Move → List Move → Move
head_or m [] = m
head_or m (x ∷ xs) = x

abbrev tail_or : List Move → List Move
tail_or [] = []
tail_or (x ∷ xs) = xs

pub part_at : (site : ℕ) (trail front rest : List Move) (m : Move) → moves_at site trail ≡ front ++ m ∷ rest → PartAt site trail front m
part_at site [] [] rest m is = absurd cc
part_at site [] (x ∷ front) rest m is = absurd cc
part_at site (y ∷ trail) front rest m is = by (y.site == site) refl front is (λ front is. part_at site trail front rest m is)
  where
    by : (b : Bool) → (y.site == site) ≡ b → (front : List Move) → (if b then y ∷ moves_at site trail else moves_at site trail) ≡ front ++ m ∷ rest →
        ((front : List Move) → moves_at site trail ≡ front ++ m ∷ rest → PartAt site trail front m) → PartAt site (y ∷ trail) front m
    by true own [] here more = record {
      first = [];
      last = trail;
      whole = ap (λ z. z ∷ trail) (ap (head_or y) here);
      mine = refl;
      own = ap (λ z. z.site) (sym (ap (head_or y) here)) ∙ eqb-true y.site site own;
    }
    by true own (x ∷ front) here more =
        let part : PartAt site trail front m = more front (ap tail_or here) in
        record {
          first = y ∷ part.first;
          last = part.last;
          whole = ap (λ l. y ∷ l) part.whole;
          mine = rw own (ap (λ l. y ∷ l) part.mine ∙ ap (λ z. z ∷ front) (ap (head_or y) here));
          own = part.own;
        }
    by false own front here more =
        let part : PartAt site trail front m = more front here in
        record { first = y ∷ part.first; last = part.last; whole = ap (λ l. y ∷ l) part.whole; mine = rw own part.mine; own = part.own }

pub sound_at : (sc : Scenario) (before first last : List Move) (m : Move) → SoundAfter sc before (first ++ m ∷ last) → IsSoundMove sc (before ++ first) m
sound_at sc before [] last m sound = let P : List Move → Type 0 = λ l. IsSoundMove sc l m in subst P (sym (append-nil before)) sound.0
sound_at sc before (x ∷ first) last m sound = let P : List Move → Type 0 = λ l. IsSoundMove sc l m in
    subst P (append_assoc before (x ∷ []) first) (sound_at sc (before ++ x ∷ []) first last m sound.1)

-- behind a silent move a site has not risen
silent_down : (front : List Move) (site : ℕ) (inputs : List Input) (records : List Record) → has_risen (front ++ record { site = site; did = Silent inputs records } ∷ []) ≡ false
silent_down front site inputs records = fold-append _ _ front (record { site = site; did = Silent inputs records } ∷ [])

pub no_step : (sc : Scenario) (site : ℕ) (trail before rest : List Move) (m : Move) (inputs : List Input) (records : List Record) → SoundAfter sc [] trail →
    moves_at site trail ≡ before ++ record { site = site; did = Silent inputs records } ∷ m ∷ rest → IsNoStep m.did
no_step sc site trail before rest m inputs records sound is = by m.did refl
  where
    part : PartAt site trail (before ++ record { site = site; did = Silent inputs records } ∷ []) m
    part = part_at site trail (before ++ record { site = site; did = Silent inputs records } ∷ []) rest m
        (is ∙ sym (append_assoc before (record { site = site; did = Silent inputs records } ∷ []) (m ∷ rest)))

    here : IsSoundMove sc part.first m
    here = let P : List Move → Type 0 = SoundAfter sc [] in sound_at sc [] part.first part.last m (subst P part.whole sound)

    by : (d : Did) → m.did ≡ d → IsNoStep d
    by (Stepped s) stepped =
        let P : Did → Type 0 = λ d. IsSoundMove sc part.first (record { site = m.site; did = d }) in
        let step : IsSoundStep sc part.first (record { site = m.site; did = Stepped s }) s.input = subst P stepped here in
        let up : has_risen (before ++ record { site = site; did = Silent inputs records } ∷ []) ≡ true =
        ap has_risen (sym part.mine ∙ ap (λ x. moves_at x part.first) (sym part.own)) ∙ step.risen in
        absurd (let both : true ≡ false = sym up ∙ silent_down before site inputs records in cc)
    by (Silent i r) quiet = tt
    by (Rose inc r) rose = tt
