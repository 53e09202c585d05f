-- What is said of an answer follows from what else is said of it.
use Rattle.std.proofs.Common.{◌≡◌, ◌∙◌, sym, subst, Result, Ok, Err, IfOk, OnOk, OnErr}
use Rattle.std.specs.Result.{IsErrAnd}
use Rattle.e3_play.specs.declared.sites.RunFault.{RunFault}
use Rattle.e3_play.specs.declared.sites.RunFault.TheVariants.{HistoryFull, NoMemory}

pub on_ok : {T E : Type 0} {P Q : Type 0} (r : Result T E) → (P → Q) → OnOk r P → OnOk r Q
on_ok (Ok t) f p = f p
on_ok (Err e) f p = tt

pub on_ok_two : {T E : Type 0} {P Q R : Type 0} (r : Result T E) → (P → Q → R) → OnOk r P → OnOk r Q → OnOk r R
on_ok_two (Ok t) f p q = f p q
on_ok_two (Err e) f p q = tt

-- what is said of an error, where there is one
pub of_err : {T E : Type 0} {P : Type 0} (r : Result T E) (e : E) → r ≡ Err e → OnErr r P → P
of_err {P = P} r e is said = subst (λ q. OnErr q P) is said

pub of_both : {T E : Type 0} {P Q R : Type 0} (r : Result T E) → (P → R) → (Q → R) → OnOk r P → OnErr r Q → R
of_both (Ok t) f h p q = f p
of_both (Err e) f h p q = h q

pub always : {T E : Type 0} {P : Type 0} (r : Result T E) → P → OnOk r P
always (Ok t) p = p
always (Err e) p = tt

-- what `?` hands on is the error that it was given
pub err_is : {T E : Type 0} (r : Result T E) (x y : E) → IsErrAnd r (λ e. e ≡ x) → r ≡ Err y → x ≡ y
err_is (Ok t) x y made is = absurd cc
err_is (Err e) x y made is = let one : e ≡ y = cc in sym made ∙ one

-- a want of memory is no full history
pub no_memory : {T : Type 0} (r : Result T RunFault) → IsErrAnd r (λ e. e ≡ NoMemory) → r ≡ Err HistoryFull → ⊥
no_memory r made is = let no : NoMemory ≡ HistoryFull = err_is r NoMemory HistoryFull made is in cc

-- where there is an error, all is said of what comes with Ok
pub fails : {T E : Type 0} (P : E → Type 0) (Q : Type 0) (r : Result T E) → IsErrAnd r P → OnOk r Q
fails P Q (Ok t) made = absurd made
fails P Q (Err e) made = tt

pub if_fails : {T E : Type 0} (P : E → Type 0) (Q : T → Type 0) (r : Result T E) → IsErrAnd r P → IfOk r Q
if_fails P Q (Ok t) made = absurd made
if_fails P Q (Err e) made = tt
