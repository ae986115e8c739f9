-- Which values can be written. Source: SPA POD, "Types"; the greatest depth and length are this
-- project's.
use Rattle.std.specs.Prelude.{◌≡◌, ℕ, suc, ◌≤◌, List, ◌++◌, length, Result, Ok, Err, IsTrue}
use Rattle.pw_lists.specs.Limits.{depth_limit, pod_bytes_limit}
use Rattle.pod_codec.specs.declared.pod.Pod.{Pod}
use Rattle.pod_codec.specs.declared.fault.WriteFault.{WriteFault}
use Rattle.pod_codec.specs.declared.fault.WriteFault.TheVariants.{Unwritable, Memory}
use Rattle.pod_codec.specs.Framing.{Form, u32_bytes}
use Rattle.pod_codec.specs.PodValue.{form_of}

-- a form with `left` levels left: all inside is allowed, and the body is not too long
pub record Fits (left : ℕ) (f : Form) : Type 0 where
  pub sound : IsTrue f.sound
  pub depth : f.depth ≤ left
  pub size : length f.body ≤ pod_bytes_limit

-- WRITABLE: at most 16 deep, a body of at most 1,048,576 bytes, and in arrays and choices what they
-- may hold
abbrev pub IsWritable : Pod → Type 0
IsWritable pod = Fits depth_limit (form_of pod)

-- done where P holds, refused where it does not, unless memory runs out
abbrev pub Tells : Result (Unit {0}) WriteFault → Type 0 → Type 0
Tells (Ok done) P = P
Tells (Err Unwritable) P = P → ⊥
Tells (Err Memory) P = Unit {0}

-- the same of a body, whose length is looked at when it is written: done where what is inside fits,
-- refused where the whole does not
abbrev pub FitsBody : Result (Unit {0}) WriteFault → ℕ → Form → Type 0
FitsBody (Ok done) left f = IsTrue f.sound × (f.depth ≤ suc left)
FitsBody (Err Unwritable) left f = Fits (suc left) f → ⊥
FitsBody (Err Memory) left f = Unit {0}

-- after what was there before are a size of 0, the type and the body of a form
pub record IsOpen (front : List ℕ) (f : Form) (at : ℕ) (bytes : List ℕ) : Type 0 where
  pub place : at ≡ length front
  pub parts : bytes ≡ (front ++ (u32_bytes 0 ++ u32_bytes f.number)) ++ f.body
