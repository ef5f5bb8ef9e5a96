use Rattle.std.proofs.Common.{subst}
use Rattle.tb_host.specs.Reported.{IsTold}
use Rattle.tb_desk.specs.Served.{IsServedInFile}
use Rattle.tb_desk.proofs.viewing.serve_page.Goals as goal

pub returns : goal.returns
returns g c =
    subst (λ s. IsServedInFile (g.W.Sink.held c.args.out.now) (g.W.Sink.held c.serve_in_file.new.out) (g.W.Sink.IsRefusal c.serve_in_file.new.out) c.serve_in_file.result.status (IsTold c.serve_in_file.result.reported) s) c.page_service.ensures c.serve_in_file.ensures
