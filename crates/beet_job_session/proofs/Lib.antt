mod LotSteps
