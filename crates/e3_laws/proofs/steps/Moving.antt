-- What one step of a site does to the logs and to the moves of all sites.
use Rattle.std.proofs.Common.{◌≡◌, ◌==◌, ℕ, false, List, [], ◌∷◌, ◌++◌, ◌∙◌, ap, append-nil}
use Rattle.std.proofs.lemmas.Grind.{flat_map-append}
use Rattle.e3_types.specs.declared.entries.Entry.{Entry}
use Rattle.e3_types.specs.declared.entries.Input.{Input}
use Rattle.e3_types.specs.declared.scenarios.Scenario.{Scenario}
use Rattle.e3_world.specs.declared.lives.At.{At}
use Rattle.e3_world.specs.Legal.{entry_of, made_by}
use Rattle.e3_world.specs.Lives.{life_at}
use Rattle.e3_world.specs.Moves.{Move, log_by, recorded, log_of, moves_of, own_entries, past_of, unnumbered_input}
use Rattle.e3_world.specs.Packets.{outs_of, sent}
use Rattle.e3_world.specs.Sound.{step_move}
use Rattle.e3_world.proofs.Numbers.{entered_move}
use Rattle.e3_world.proofs.Pushes.{life_log_at, log_push, past_push}
use Rattle.e3_world.proofs.Readings.{own_other, own_same}
use Rattle.e3_world.proofs.Turns.{self}

-- the place of a step
abbrev pub place : Scenario → List Entry → ℕ → Input → At
place sc h site i = record { weights = sc.weights; site = site; life = life_at (moves_of sc h site); input = unnumbered_input i }

-- its log is that of the site
pub place_log : (sc : Scenario) (h : List Entry) (site : ℕ) (i : Input) → (place sc h site i).life.log ≡ log_of sc h site
place_log sc h site i = life_log_at (moves_of sc h site)

-- the site has its step as one more move
pub moves_on : (sc : Scenario) (h : List Entry) (site : ℕ) (i : Input) →
    moves_of sc (h ++ entry_of sc h site i ∷ []) site ≡ moves_of sc h site ++ step_move sc site (moves_of sc h site) i ∷ []
moves_on sc h site i =
    ap (λ l. (past_of sc site l).moves) (own_same site h (entry_of sc h site i) (self site))
    ∙ ap (λ p. p.moves) (past_push sc site (own_entries site h) (entry_of sc h site i))
    ∙ ap (λ l. moves_of sc h site ++ l) (entered_move sc h site i)

pub log_on : (sc : Scenario) (h : List Entry) (site : ℕ) (i : Input) →
    log_of sc (h ++ entry_of sc h site i ∷ []) site ≡ log_of sc h site ++ (made_by sc h site i).records
log_on sc h site i = ap log_by (moves_on sc h site i) ∙ log_push (moves_of sc h site) (step_move sc site (moves_of sc h site) i)

-- the others have theirs
pub moves_still : (sc : Scenario) (h : List Entry) (site s : ℕ) (i : Input) → (site == s) ≡ false →
    moves_of sc (h ++ entry_of sc h site i ∷ []) s ≡ moves_of sc h s
moves_still sc h site s i other = ap (λ l. (past_of sc s l).moves) (own_other s h (entry_of sc h site i) other)

pub log_still : (sc : Scenario) (h : List Entry) (site s : ℕ) (i : Input) → (site == s) ≡ false →
    log_of sc (h ++ entry_of sc h site i ∷ []) s ≡ log_of sc h s
log_still sc h site s i other = ap log_by (moves_still sc h site s i other)

pub log_append : (xs ys : List Move) → log_by (xs ++ ys) ≡ log_by xs ++ log_by ys
log_append xs ys = flat_map-append recorded xs ys

-- what was sent, with one entry more
pub sent_push : (h : List Entry) (e : Entry) → sent (h ++ e ∷ []) ≡ sent h ++ outs_of e.act
sent_push h e = flat_map-append (λ x. outs_of x.act) h (e ∷ []) ∙ ap (λ l. sent h ++ l) (append-nil (outs_of e.act))
