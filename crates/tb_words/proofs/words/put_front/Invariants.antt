use Rattle.std.proofs.Common.{encode_utf8_all, map}
use Rattle.std.specs.Fmt.{HasWritten, IsPlainFormatter}
use Rattle.tb_words.specs.Shown.{visible}
use Rattle.tb_words.proofs.words.put_front.Given as goal

abbrev pub invariant-loop-c : goal.invariant-loop-c
invariant-loop-c g l =
    IsPlainFormatter l.initial.f → HasWritten g.W.Write.write_str_gives l.initial.f (encode_utf8_all (map visible l.yielded)) l.f
