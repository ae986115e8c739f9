-- Sound choices: what an object must be so that each of its choices can be read by its child type.
-- Source: SPA POD, "Types"; spa/pod/pod.h.
use Rattle.std.specs.Prelude.{◌≡◌, ℕ, ◌<◌, length}
use Rattle.std.specs.List.{All}
use Rattle.pod_codec.specs.declared.pod.Pod.{Pod}
use Rattle.pod_codec.specs.declared.pod.Prop.{Prop}
use Rattle.pod_codec.specs.declared.pod.Control.{Control}
use Rattle.pod_codec.specs.declared.pod.Pod.TheOpen.{Pod-F}
use Rattle.pod_codec.specs.declared.pod.Pod.TheViews.{out-Pod, out-Prop}
use Rattle.pod_codec.specs.PodType.{child_size}
use Rattle.pod_codec.specs.PodValue.{form_of}

-- a value of the type with this number
abbrev pub IsOfType : ℕ → Pod → Type 0
IsOfType number pod = (form_of pod).number ≡ number

-- a choice that has values: its child type is allowed, and each value is of that type; any other
-- value is free
abbrev pub IsSoundChoice : Pod-F Pod Control Prop → Type 0
IsSoundChoice (Pod-F.Choice kind flags child values) = 0 < length values → (0 < child_size child)
    × All (IsOfType child) values
IsSoundChoice other = Unit {0}

-- of an object: each property's value
abbrev pub HoldsSoundChoices : Pod-F Pod Control Prop → Type 0
HoldsSoundChoices (Pod-F.Object object id props) = All
    (λ prop. IsSoundChoice (out-Pod (out-Prop prop).value)) props
HoldsSoundChoices other = Unit {0}

-- SOUND CHOICES: each choice that is a property's value is sound
abbrev pub HasSoundChoices : Pod → Type 0
HasSoundChoices pod = HoldsSoundChoices (out-Pod pod)
