-- The commands of both programs are ones of which clap gives the matches, and the kinds of error.
use Rattle.std.proofs.Common.{◌≡◌, true, refl}
use Rattle.clap.specs.Words.{is_simple, is_simple_and_free}
use Rattle.clap.proofs.OnLiterals.{clap_on_literals}
use Rattle.tb_cli.specs.Tree.{desk_app, verbs}
use Rattle.tb_cli.specs.View.{view_app, view_verbs}

pub desk_is_simple : is_simple desk_app ≡ true
unfolding desk_app verbs clap_on_literals
desk_is_simple = refl

pub desk_is_free : is_simple_and_free desk_app ≡ true
unfolding desk_app verbs clap_on_literals
desk_is_free = refl

pub view_is_simple : is_simple view_app ≡ true
unfolding view_app view_verbs clap_on_literals
view_is_simple = refl

pub view_is_free : is_simple_and_free view_app ≡ true
unfolding view_app view_verbs clap_on_literals
view_is_free = refl
