use Rattle.sx_top.proofs.Loadings.{loads_of, read_of, unread_of, quiet_of}
use Rattle.sx_top.proofs.loading.load.Goals as goal

pub returns-in-Err-read_stylesheet-clause-loads : goal.returns-in-Err-read_stylesheet-clause-loads
returns-in-Err-read_stylesheet-clause-loads g c =
    unread_of c.args.name.now (g.D.Desk.seen c.args.desk.now) (g.D.Desk.seen c.open_file.new.self) (g.D.Desk.seen c.read_stylesheet.new.desk) c.in-Ok.file c.read_stylesheet.new.names c.in-Err-read_stylesheet.status c.in-Ok.ensures (c.in-Err-read_stylesheet.ensures.reads)

pub returns-clause-loads : goal.returns-clause-loads
returns-clause-loads g c =
    let old = g.D.Desk.seen c.args.desk.now in
    let new = g.D.Desk.seen c.read_stylesheet.new.desk in
    let reads = c.in-Ok-read_stylesheet.ensures.reads in
    let read = read_of c.args.name.now old (g.D.Desk.seen c.open_file.new.self) new c.in-Ok.file c.read_stylesheet.new.names c.in-Ok-read_stylesheet.events c.in-Ok.ensures reads in
    loads_of c.args.name.now reads.content.0 c.accept.new.names old new c.accept.result read (c.accept.ensures.judged reads.content.0 reads.content.1)

pub returns-in-Err-read_stylesheet-clause-quiet : goal.returns-in-Err-read_stylesheet-clause-quiet
returns-in-Err-read_stylesheet-clause-quiet g c =
    quiet_of c.args.name.now (g.D.Desk.seen c.args.desk.now) (g.D.Desk.seen c.open_file.new.self) (g.D.Desk.seen c.read_stylesheet.new.desk) c.in-Ok.file c.in-Ok.ensures c.read_stylesheet.ensures.frame

pub returns-clause-quiet : goal.returns-clause-quiet
returns-clause-quiet g c =
    quiet_of c.args.name.now (g.D.Desk.seen c.args.desk.now) (g.D.Desk.seen c.open_file.new.self) (g.D.Desk.seen c.read_stylesheet.new.desk) c.in-Ok.file c.in-Ok.ensures c.read_stylesheet.ensures.frame
