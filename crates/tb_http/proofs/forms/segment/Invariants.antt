use Rattle.std.proofs.Common.{◌≡◌, ◌-◌}
use denote.Shadow.{shadow}
use denote.Text.{Utf8}
use Rattle.tb_http.specs.Forms.{segment_of}
use Rattle.tb_http.proofs.forms.segment.Given as goal

abbrev pub invariant-loop-i : goal.invariant-loop-i
invariant-loop-i l = (segment_of (l.n - l.i) l.rest ≡ segment_of l.n l.text) × shadow (Utf8 l.rest)
