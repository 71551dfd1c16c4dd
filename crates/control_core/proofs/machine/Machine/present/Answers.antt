use Rattle.control_core.proofs.machine.Machine.present.Goals as goal

pub returns-clause-belongs : goal.returns-clause-belongs
returns-clause-belongs c =
    let m = c.args.self.now in
    let stands = c.requires.stands in
    rw (← c.self.view_is)
    (c.present.ensures.belongs stands.0 (rw (← c.self.view_is) at stands.1) _ (rw (← c.self.view_is) at (c.every_history.ensures.settled m.file.cluster m.desk.exec c.requires.sound.exec)))
