use Rattle.iscsi_ports.proofs.socket_ports.SocketPorts.read_into.Goals as goal

pub returns-clause-count : goal.returns-clause-count
returns-clause-count g c = c.read_told.ensures.count c.args.room c.read-answer.ensures.count
