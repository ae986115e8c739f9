-- Laws of `specs/Checked.antt`: what a step was that went on.
use Rattle.std.proofs.Common.{◌≡◌, Bool, true, false, cond, ◌||◌, refl}
use Rattle.std.specs.Prelude.{Option, Some, None, ok_or, option_map, is_some, Result, Ok, Err}
use Rattle.graph_script.specs.declared.fault.ScriptWhy.{ScriptWhy}
use Rattle.graph_script.specs.Checked.{◌>>=◌}

pub from_bind : {A B : Type 0} (r : Result A ScriptWhy) (f : A → Result B ScriptWhy) (y : B) → (r >>= f) ≡ Ok y
    → (x : A) × (r ≡ Ok x) × (f x ≡ Ok y)
from_bind (Err why) f y e = cc
from_bind (Ok x) f y e = (x, refl, e)

pub from_some : {A : Type 0} (o : Option A) (why : ScriptWhy) (y : A) → ok_or o why ≡ Ok y → o ≡ Some y
from_some None why y e = cc
from_some (Some x) why y e = cc

-- a test that lets the value through, and one that does not
pub from_test : {A : Type 0} (b : Bool) (why : ScriptWhy) (r : Result A ScriptWhy) (y : A) → cond b r (Err why) ≡ Ok y
    → (b ≡ true) × (r ≡ Ok y)
from_test true why r y e = (refl, e)
from_test false why r y e = cc

pub from_refusal : {A : Type 0} (b : Bool) (why : ScriptWhy) (r : Result A ScriptWhy) (y : A) → cond b (Err why) r ≡ Ok y
    → (b ≡ false) × (r ≡ Ok y)
from_refusal true why r y e = cc
from_refusal false why r y e = (refl, e)

-- the same of an option
pub from_choice : {A : Type 0} (b : Bool) (x y : A) → cond b (Some x) None ≡ Some y → (b ≡ true) × (x ≡ y)
from_choice true x y e = (refl, cc)
from_choice false x y e = cc

pub from_map : {A B : Type 0} (f : A → B) (o : Option A) (y : B) → option_map f o ≡ Some y → (x : A) × (o ≡ Some x) × (f x ≡ y)
from_map f None y e = cc
from_map f (Some x) y e = (x, refl, cc)

pub is_none : {A : Type 0} (o : Option A) → is_some o ≡ false → o ≡ None
is_none None e = refl
is_none (Some x) e = cc

pub or_parts : (x y : Bool) → (x || y) ≡ false → (x ≡ false) × (y ≡ false)
or_parts true y e = cc
or_parts false y e = (refl, e)
