use Rattle.std.specs.Prelude.{map, string_bytes}
use Rattle.pw_top.proofs.AlikeLemmas.{answers_alike}
use Rattle.pw_top.proofs.one_answer.order_shows_in_events_alone.Goals as goal

pub returns : goal.returns
returns c = λ names h k a b p q na nb. answers_alike (map string_bytes c.args.words.now) h k names a b p q na nb
