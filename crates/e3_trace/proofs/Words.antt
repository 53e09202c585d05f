-- Fields are read from what is written of them, and have no mark that would cut them.
use Rattle.std.proofs.Common.{◌≡◌, ◌==◌, ℕ, true, false, List, [], ◌∷◌, ◌++◌, length, Some, refl, ap, ◌∙◌, arith, append_assoc, le-leb}
use Rattle.std.specs.Prelude.{codes}
use Rattle.std.specs.Fmt.{decimal}
use Rattle.std.proofs.lemmas.List.Sums.{list_all-from_AllPass}
use Rattle.e3_types.specs.declared.transactions.Answer.{Answer}
use Rattle.e3_types.specs.declared.transactions.Answer.TheVariants.{Absent, Value, Written}
use Rattle.e3_types.specs.declared.transactions.Dir.{Dir}
use Rattle.e3_types.specs.declared.transactions.Dir.TheVariants.{Abort, Commit}
use Rattle.e3_types.specs.declared.transactions.Key.{Key}
use Rattle.e3_types.specs.declared.transactions.Op.{Op}
use Rattle.e3_types.specs.declared.transactions.Op.TheVariants.{Read, Write}
use Rattle.e3_types.specs.declared.transactions.State.{State}
use Rattle.e3_types.specs.declared.transactions.State.TheVariants.{Q, W, Pc, Pa, C, A}
use Rattle.e3_types.specs.declared.transactions.Txn.{Txn}
use Rattle.e3_types.specs.Text.{IsName, IsValue, is_letter}
use Rattle.e3_report.specs.lines.Texts.{txn_text, key_text, dir_text, state_text}
use Rattle.e3_report.specs.lines.Events.{answer_text}
use Rattle.e3_report.specs.lines.Inputs.{operation_text}
use Rattle.e3_trace.specs.Cuts.{made_of, pair_of}
use Rattle.e3_report.specs.lines.Marks.{space, point, feed}
use Rattle.e3_trace.specs.Fields.{Known, is_digit, u32_of, name_of, value_of, key_from, key_of, dir_of, state_of, write_from, op_by, op_of, answer_of, txn_name_of, txn_of}
use Rattle.e3_trace.specs.Tellable.{IsShort, IsLong, lacks, IsKey, HasNumbers, IsBegun, IsOp, IsAnswer}
use Rattle.e3_trace.proofs.Cutting.{pair_again, made_again, lacks_join, lacks_by}
use Rattle.e3_report.proofs.lines.Names.{name_of-name}
use Rattle.e3_trace.proofs.Numbers.{short_again, number_lacks}

-- a short number is a long one
pub widen : (n : ℕ) → IsShort n → IsLong n
widen n h = omega arith

-- a mark between two texts
pub joined : (mark : ℕ) (s t : List ℕ) → (s ++ mark ∷ []) ++ t ≡ s ++ mark ∷ t
joined mark s t = append_assoc s (mark ∷ []) t

-- values and names
pub value_again : (text : List ℕ) → IsValue text → value_of text ≡ Some text
value_again text is = rw (le-leb (length text) 256 is) refl

pub name_lacks : (mark : ℕ) (text : List ℕ) → is_letter mark ≡ false → IsName text → lacks mark text ≡ true
name_lacks mark text fails is = lacks_by is_letter mark text fails (list_all-from_AllPass is_letter text is.letters)

-- a key
pub key_again : (key : Key) → IsKey key → key_of (key_text key) ≡ Some key
unfolding key_text key_of
key_again key is =
    let read = pair_again point u32_of name_of (decimal key.site) key.name key.site key.name
    (number_lacks point key.site refl (widen key.site is.site)) (short_again key.site is.site) (name_of-name key.name is.name) in
    ap (made_of key_from (pair_of point u32_of name_of)) (joined point (decimal key.site) key.name) ∙ made_again key_from (pair_of point u32_of name_of) (decimal key.site ++ point ∷ key.name) (key.site, key.name) read

pub key_lacks : (mark : ℕ) (key : Key) → is_digit mark ≡ false → is_letter mark ≡ false → (mark == point) ≡ false → (point == mark) ≡ false → IsKey key → lacks mark (key_text key) ≡ true
unfolding key_text
key_lacks mark key digit letter e f is =
    lacks_join mark (decimal key.site ++ codes ".") key.name
    (lacks_join mark (decimal key.site) (codes ".") (number_lacks mark key.site digit (widen key.site is.site)) (rw f refl))
    (name_lacks mark key.name letter is.name)

-- directions and states
pub dir_again : (dir : Dir) → dir_of (dir_text dir) ≡ Some dir
unfolding dir_of dir_text
dir_again Abort = refl
dir_again Commit = refl

pub state_again : (state : State) → state_of (state_text state) ≡ Some state
unfolding state_of state_text
state_again Q = refl
state_again W = refl
state_again Pc = refl
state_again Pa = refl
state_again C = refl
state_again A = refl

pub state_lacks : (state : State) → (lacks space (state_text state) ≡ true) × (lacks feed (state_text state) ≡ true)
unfolding state_text
state_lacks Q = (refl, refl)
state_lacks W = (refl, refl)
state_lacks Pc = (refl, refl)
state_lacks Pa = (refl, refl)
state_lacks C = (refl, refl)
state_lacks A = (refl, refl)

pub dir_lacks : (dir : Dir) → lacks feed (dir_text dir) ≡ true
unfolding dir_text
dir_lacks Abort = refl
dir_lacks Commit = refl

-- operations
pub op_again : (op : Op) → IsOp op → op_of (operation_text op) ≡ Some op
unfolding op_of operation_text
op_again (Read key) is = made_again Read key_of (key_text key) key (key_again key is)
op_again (Write key val) is =
    let read = pair_again space key_of value_of (key_text key) val key val
    (key_lacks space key refl refl refl refl is.0) (key_again key is.0) (value_again val is.1.short) in
    let whole = made_again write_from (pair_of space key_of value_of) (key_text key ++ space ∷ val) (key, val) read in
    ap (λ t. op_by (codes "write") t) (joined space (key_text key) val) ∙ whole

-- answers
pub answer_again : (answer : Answer) → IsAnswer answer → answer_of (answer_text answer) ≡ Some answer
unfolding answer_of answer_text
answer_again Written is = refl
answer_again Absent is = refl
answer_again (Value val) is = rw (value_again val is.short) refl

-- a transaction's name, and a transaction that was begun
pub txn_name_again : (t : Txn) → HasNumbers t → txn_name_of (txn_text t) ≡ Some (t.site, (t.inc, t.seq))
unfolding txn_name_of txn_text
txn_name_again t has =
    let last = pair_again point u32_of u32_of (decimal t.inc) (decimal t.seq) t.inc t.seq
    (number_lacks point t.inc refl (widen t.inc has.inc)) (short_again t.inc has.inc) (short_again t.seq has.seq) in
    let all = pair_again point u32_of (pair_of point u32_of u32_of) (decimal t.site) (decimal t.inc ++ point ∷ decimal t.seq) t.site (t.inc, t.seq)
    (number_lacks point t.site refl (widen t.site has.site)) (short_again t.site has.site) last in
    ap (pair_of point u32_of (pair_of point u32_of u32_of))
    (append_assoc ((decimal t.site ++ codes ".") ++ decimal t.inc) (codes ".") (decimal t.seq)
    ∙ append_assoc (decimal t.site ++ codes ".") (decimal t.inc) (point ∷ decimal t.seq)
    ∙ joined point (decimal t.site) (decimal t.inc ++ point ∷ decimal t.seq)) ∙ all

pub txn_lacks : (mark : ℕ) (t : Txn) → is_digit mark ≡ false → (point == mark) ≡ false → HasNumbers t → lacks mark (txn_text t) ≡ true
unfolding txn_text
txn_lacks mark t digit e has =
    let dot : lacks mark (codes ".") ≡ true = rw e refl in
    lacks_join mark (((decimal t.site ++ codes ".") ++ decimal t.inc) ++ codes ".") (decimal t.seq)
    (lacks_join mark ((decimal t.site ++ codes ".") ++ decimal t.inc) (codes ".")
    (lacks_join mark (decimal t.site ++ codes ".") (decimal t.inc)
    (lacks_join mark (decimal t.site) (codes ".") (number_lacks mark t.site digit (widen t.site has.site)) dot)
    (number_lacks mark t.inc digit (widen t.inc has.inc))) dot)
    (number_lacks mark t.seq digit (widen t.seq has.seq))

pub txn_again : (known : Known) (t : Txn) → IsBegun known t → txn_of known (txn_text t) ≡ Some t
unfolding txn_of
txn_again known t is = rw (txn_name_again t is.numbers) is.begun
