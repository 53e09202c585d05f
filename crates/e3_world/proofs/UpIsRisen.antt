-- A site that is up has risen.
use Rattle.std.proofs.Common.{◌≡◌, ℕ, Bool, true, false, List, [], ◌∷◌, ◌++◌, append-nil, append_assoc, sym, ◌∙◌, ap, map, fold, None}
use Rattle.std.proofs.lemmas.Grind.{fold-append}
use Rattle.e3_types.specs.declared.entries.Act.{Act}
use Rattle.e3_types.specs.declared.entries.Act.TheVariants.{Step, Fall, Rise, RiseFall, Miss, Cut, Drop, Parts, Line}
use Rattle.e3_types.specs.declared.entries.Entry.{Entry}
use Rattle.e3_types.specs.declared.scenarios.Scenario.{Scenario}
use Rattle.e3_types.specs.declared.records.Record.{Record}
use Rattle.e3_world.specs.Moves.{Move, Stepped, Rose, Past, past_of, past_by, moves_of_act, kept_moves, is_up, unnumbered, unnumbered_input, rise_records, log_by}
use Rattle.e3_world.specs.Sound.{has_risen}

-- whether a site is up behind one more act
abbrev up_behind : Bool → Act → Bool
up_behind was (Rise kept inc) = true
up_behind was (RiseFall kept inc why) = false
up_behind was Miss = false
up_behind was Cut = false
up_behind was (Fall inputs records why) = false
up_behind was _ = was

risen_by : (moves silent : List Move) (site inc : ℕ) (records : List Record) →
    has_risen (moves ++ (silent ++ record { site = site; did = Rose inc records } ∷ [])) ≡ true
risen_by moves silent site inc records =
    ap has_risen (sym (append_assoc moves silent (record { site = site; did = Rose inc records } ∷ [])))
    ∙ fold-append _ _ (moves ++ silent) (record { site = site; did = Rose inc records } ∷ [])

one_act : (sc : Scenario) (site : ℕ) (w : Past) (was : Bool) (act : Act) → (was ≡ true → has_risen w.moves ≡ true) →
    up_behind was act ≡ true → has_risen (w.moves ++ moves_of_act sc site w act) ≡ true
one_act sc site w was (Step i records outs events) h up = fold-append _ _ w.moves (record { site = site; did = Stepped (record { input = unnumbered_input i; records = records; outs = map unnumbered outs; told = events }) } ∷ []) ∙ h up
one_act sc site w was (Rise kept inc) h up = risen_by w.moves (kept_moves site kept w.tail) site inc (rise_records sc site inc (log_by (w.moves ++ kept_moves site kept w.tail)))
one_act sc site w was (RiseFall kept inc why) h up = cc
one_act sc site w was (Fall inputs records why) h up = cc
one_act sc site w was Miss h up = cc
one_act sc site w was Cut h up = cc
one_act sc site w was (Drop packet) h up = ap has_risen (append-nil w.moves) ∙ h up
one_act sc site w was (Parts parts) h up = ap has_risen (append-nil w.moves) ∙ h up
one_act sc site w was (Line number) h up = ap has_risen (append-nil w.moves) ∙ h up

-- a site that is up has risen, by its moves
up_from : (sc : Scenario) (site : ℕ) (w : Past) (was : Bool) (mine : List Entry) → (was ≡ true → has_risen w.moves ≡ true) →
    fold (λ was e. up_behind was e.act) was mine ≡ true → has_risen (fold (past_by sc site) w mine).moves ≡ true
up_from sc site w was [] h up = h up
up_from sc site w was (e ∷ mine) h up =
    up_from sc site (past_by sc site w e) (up_behind was e.act) mine (one_act sc site w was e.act h) up

pub up_risen : (sc : Scenario) (site : ℕ) (mine : List Entry) → is_up mine ≡ true → has_risen (past_of sc site mine).moves ≡ true
up_risen sc site mine up = up_from sc site (record { moves = []; tail = None }) false mine (λ e. cc) up
