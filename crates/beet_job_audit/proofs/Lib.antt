mod AuditSteps
