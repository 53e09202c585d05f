-- What is kept of a site's entries is its present incarnation and its open tail.
use Rattle.std.proofs.Common.{◌≡◌, ℕ, Bool, true, false, List, [], ◌∷◌, ◌++◌, Option, Some, None, append_assoc, append-nil, sym, ◌∙◌, ap, refl, fold}
use Rattle.e3_types.specs.declared.entries.Act.{Act}
use Rattle.e3_types.specs.declared.entries.Act.TheVariants.{Step, Fall, Rise, RiseFall, Miss, Cut, Drop, Parts, Line}
use Rattle.e3_types.specs.declared.entries.Entry.{Entry}
use Rattle.e3_types.specs.declared.records.Record.{Record}
use Rattle.e3_types.specs.declared.scenarios.Scenario.{Scenario}
use Rattle.e3_world.specs.declared.lives.Incarnation.{Incarnation}
use Rattle.e3_world.specs.Lives.{present_log, incarnation_of, incarnation_by}
use Rattle.e3_world.specs.Moves.{Move, Past, Tail, Rose, kept_moves, left_by, log_by, log_of, moves_of, open_tail, own_entries, past_by, past_of, rise_records}
use Rattle.e3_world.proofs.Pushes.{incarnation_push, present_is_log}
use Rattle.e3_judge.specs.declared.sites.Standing.{Standing}
use Rattle.e3_judge.specs.Standing.{kept_in, nothing_yet, standing_by}

-- what a past comes to
abbrev pub standing_of : Past → Standing
standing_of w = record { incarnation = incarnation_of w.moves; tail = w.tail }

-- behind a tail that is kept, or not
kept_push : (site : ℕ) (moves : List Move) (kept : Bool) (tail : Option Tail) →
    incarnation_of (moves ++ kept_moves site kept tail) ≡ kept_in (incarnation_of moves) kept tail
kept_push site moves true (Some tail) = incarnation_push moves _
kept_push site moves true None = ap incarnation_of (append-nil moves)
kept_push site moves false (Some tail) = ap incarnation_of (append-nil moves)
kept_push site moves false None = ap incarnation_of (append-nil moves)

-- the records of a rise, by the log at present
same_records : (sc : Scenario) (site inc : ℕ) (moves : List Move) (now : Incarnation) → incarnation_of moves ≡ now →
    rise_records sc site inc (log_by moves) ≡ rise_records sc site inc (present_log now)
same_records sc site inc moves now is =
    ap (rise_records sc site inc) (sym (present_is_log moves) ∙ ap present_log is)

-- behind a rise
rise_push : (sc : Scenario) (site inc : ℕ) (moves silent : List Move) (now : Incarnation) → incarnation_of (moves ++ silent) ≡ now →
    incarnation_of (moves ++ (silent ++ record { site = site; did = Rose inc (rise_records sc site inc (log_by (moves ++ silent))) } ∷ []))
    ≡ (let i : Incarnation = record { rose = present_log now ++ rise_records sc site inc (present_log now); since = [] } in i)
rise_push sc site inc moves silent now is =
    ap incarnation_of (sym (append_assoc moves silent _)) ∙ incarnation_push (moves ++ silent) _
    ∙ ap (λ i. incarnation_by i (record { site = site; did = Rose inc (rise_records sc site inc (log_by (moves ++ silent))) })) is
    ∙ ap (λ (rs : List Record). let i : Incarnation = record { rose = present_log now ++ rs; since = [] } in i)
    (same_records sc site inc (moves ++ silent) now is)

same_standing : {i j : Incarnation} {t u : Option Tail} → i ≡ j → t ≡ u →
    (let s : Standing = record { incarnation = i; tail = t } in s) ≡ (let s : Standing = record { incarnation = j; tail = u } in s)
same_standing {i} {j} {t} {u} is has = rw (is, has) refl

-- one more entry of the site
act_push : (sc : Scenario) (site owner : ℕ) (w : Past) (act : Act) →
    standing_by sc site (standing_of w) act ≡ standing_of (past_by sc site w (record { owner = owner; act = act }))
act_push sc site owner w (Step i records outs events) = same_standing (sym (incarnation_push w.moves _)) refl
act_push sc site owner w (Fall inputs records why) = same_standing (ap incarnation_of (sym (append-nil w.moves))) refl
act_push sc site owner w (Rise kept inc) =
    same_standing (sym (rise_push sc site inc w.moves (kept_moves site kept w.tail) _ (kept_push site w.moves kept w.tail))) refl
act_push sc site owner w (RiseFall kept inc why) =
    same_standing (sym (kept_push site w.moves kept w.tail))
    (ap (left_by why []) (sym (same_records sc site inc (w.moves ++ kept_moves site kept w.tail) _ (kept_push site w.moves kept w.tail))))
act_push sc site owner w Miss = same_standing (ap incarnation_of (sym (append-nil w.moves))) refl
act_push sc site owner w Cut = same_standing (ap incarnation_of (sym (append-nil w.moves))) refl
act_push sc site owner w (Drop packet) = same_standing (ap incarnation_of (sym (append-nil w.moves))) refl
act_push sc site owner w (Parts parts) = same_standing (ap incarnation_of (sym (append-nil w.moves))) refl
act_push sc site owner w (Line number) = same_standing (ap incarnation_of (sym (append-nil w.moves))) refl

stands_from : (sc : Scenario) (site : ℕ) (w : Past) (mine : List Entry) →
    fold (λ was e. standing_by sc site was e.act) (standing_of w) mine ≡ standing_of (fold (past_by sc site) w mine)
stands_from sc site w [] = refl
stands_from sc site w (e ∷ mine) =
    ap (λ s. fold (λ was e. standing_by sc site was e.act) s mine) (act_push sc site e.owner w e.act)
    ∙ stands_from sc site (past_by sc site w e) mine

stands : (sc : Scenario) (site : ℕ) (mine : List Entry) →
    fold (λ was e. standing_by sc site was e.act) nothing_yet mine ≡ standing_of (past_of sc site mine)
stands sc site mine = stands_from sc site (record { moves = []; tail = None }) mine

pub incarnation_stands : (sc : Scenario) (h : List Entry) (site : ℕ) →
    (fold (λ was e. standing_by sc site was e.act) nothing_yet (own_entries site h)).incarnation ≡ incarnation_of (moves_of sc h site)
incarnation_stands sc h site = ap (λ s. s.incarnation) (stands sc site (own_entries site h))

pub tail_stands : (sc : Scenario) (h : List Entry) (site : ℕ) →
    (fold (λ was e. standing_by sc site was e.act) nothing_yet (own_entries site h)).tail ≡ open_tail sc h site
tail_stands sc h site = ap (λ s. s.tail) (stands sc site (own_entries site h))

pub log_stands : (sc : Scenario) (h : List Entry) (site : ℕ) → present_log (incarnation_of (moves_of sc h site)) ≡ log_of sc h site
log_stands sc h site = present_is_log (moves_of sc h site)
