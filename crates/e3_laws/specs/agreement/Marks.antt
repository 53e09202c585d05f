-- Marks in order, the oldest first: each is what one site wrote and sent in one go.
use Rattle.std.specs.Prelude.{◌≡◌, ◌==◌, ◌++◌, ◌∷◌, [], if◌then◌else◌, ℕ, List, fold, Option, Some, None}
use Rattle.std.specs.List.{flat_map}
use Rattle.e3_types.specs.declared.transactions.Dir.{Dir}
use Rattle.e3_types.specs.declared.transactions.Dir.TheVariants.{Abort}
use Rattle.e3_laws.specs.agreement.Logs.{IsIn, Note, Final}
use Rattle.e3_laws.specs.agreement.Rules.{Party, Situation, Letter, Word, No, Report, Decide, MayWrite, MaySay}

-- what a site wrote, the oldest first, and the letters that it sent behind that
pub record Mark : Type 0 where
  pub site : ℕ
  pub notes : List Note
  pub sends : List Letter

-- the notes with these behind them, which the oldest of these begins
abbrev pub behind : List Note → List Note → List Note
behind l [] = l
behind l (r ∷ rs) = behind (r ∷ l) rs

-- the notes of x behind one more mark
abbrev pub log_by : ℕ → List Note → Mark → List Note
log_by x l m = if m.site == x then behind l m.notes else l

-- the notes of x behind these marks
abbrev pub log_of : ℕ → List Mark → List Note
log_of x marks = fold (log_by x) [] marks

-- all letters that were sent
abbrev pub sent_of : List Mark → List Letter
sent_of marks = flat_map (λ m. m.sends) marks

-- the situation behind these marks
abbrev pub situation_of : List Mark → Situation
situation_of marks = record { log = λ x. log_of x marks; sent = sent_of marks }

-- the notes may be written one after the other
abbrev pub MayWriteAll : Party → List Letter → List Note → ℕ → List Note → Type 0
MayWriteAll g sent l x [] = Unit {0}
MayWriteAll g sent l x (r ∷ rs) = MayWrite g sent l x r × MayWriteAll g sent (r ∷ l) x rs

-- the mark may be made: its notes may be written, and its letters are the site's own and may be sent behind them
pub record MayMark (g : Party) (s : Situation) (m : Mark) : Type 0 where
  pub notes : MayWriteAll g s.sent (s.log m.site) m.site m.notes
  pub from_here : (p : Letter) → IsIn p m.sends → p.source ≡ m.site
  pub sends : (p : Letter) → IsIn p m.sends → MaySay s.sent (behind (s.log m.site) m.notes) m.site p.target p.word

-- each of these marks may be made behind those before it
abbrev pub AllowedAfter : Party → List Mark → List Mark → Type 0
AllowedAfter g before [] = Unit {0}
AllowedAfter g before (m ∷ rest) = MayMark g (situation_of before) m × AllowedAfter g (before ++ m ∷ []) rest

-- each mark may be made behind those before it
abbrev pub Allowed : Party → List Mark → Type 0
Allowed g marks = AllowedAfter g [] marks

-- the decision that a word says
abbrev pub said : Word → Option Dir
said No = Some Abort
said (Report n (Final d) a) = Some d
said (Decide d) = Some d
said w = None
