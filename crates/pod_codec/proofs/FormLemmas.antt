-- The written form of a value, from what it is and the forms of what it holds.
use Rattle.std.proofs.Common.{◌≡◌}
use Rattle.pod_codec.specs.declared.pod.Pod.{Pod}
use Rattle.pod_codec.specs.declared.pod.Prop.{Prop}
use Rattle.pod_codec.specs.declared.pod.Control.{Control}
use Rattle.pod_codec.specs.declared.pod.Pod.TheOpen.{Pod-F}
use Rattle.pod_codec.specs.declared.pod.Pod.TheViews.{out-Pod, out-Prop, out-Control}
use Rattle.pod_codec.specs.declared.pod.Pod.TheFolds.{map-Pod, fold_out-Pod, fold_out-Prop, fold_out-Control}
use Rattle.pod_codec.specs.Framing.{Form, Keyed}
use Rattle.pod_codec.specs.PodValue.{pod_form, control_form, prop_form, form_of, keyed_of, control_keyed}

abbrev pub form_at : Pod-F Pod Control Prop → Form
form_at v = pod_form (map-Pod Pod Control Prop Form Keyed Keyed form_of control_keyed keyed_of v)

pub form_out : (pod : Pod) → form_of pod ≡ form_at (out-Pod pod)
form_out pod = fold_out-Pod Form Keyed Keyed pod_form control_form prop_form pod

pub keyed_out : (prop : Prop) → keyed_of prop ≡ record
    { first = (out-Prop prop).key; second = (out-Prop prop).flags; value = form_of (out-Prop prop).value }
keyed_out prop = fold_out-Prop Form Keyed Keyed pod_form control_form prop_form prop

pub control_out : (control : Control) → control_keyed control ≡ record
    { first = (out-Control control).offset; second = (out-Control control).kind; value = form_of (out-Control control).value }
control_out control = fold_out-Control Form Keyed Keyed pod_form control_form prop_form control
