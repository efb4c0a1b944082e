mod SameLimits
